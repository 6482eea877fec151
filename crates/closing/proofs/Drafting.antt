-- The old passes as pairs on a copy of the accounts: the pairs so far, made of the book, give the accounts that the copy has. The second pass as
-- nested loops: what is left of it, done to that book, is the whole; a search that has found nobody yet has the same answer as the rest of it.
-- Assumes nothing.
use Rattle.std.specs.Prelude.{◌≡◌, refl, Bool, true, false, ◌&&◌, List, [], ◌∷◌, ◌++◌, ℕ, zero, suc, ◌+◌, ◌-◌, ◌≤◌, ◌<◌, length, take, eqb, get_or, Option, Some, None}
use Rattle.std.proofs.Common.{sym, ap, ◌∙◌, arith, eq-eqb, length-append}
use Rattle.book.specs.declared.accounts.Account.{Account}
use Rattle.book.specs.declared.accounts.Side.{Side}
use Rattle.book.specs.declared.tables.Book.{Book}
use Rattle.book.specs.declared.tables.Listed.{Listed}
use Rattle.book.specs.declared.tables.Pair.{Pair}
use Rattle.book.specs.Counting.{All, iter, lowest}
use Rattle.book.specs.Rows.{blank_account, is_long, is_short, any_class}
use Rattle.book.specs.Tables.{account_at}
use Rattle.book.specs.Pairing.{freeze, pair}
use Rattle.book.specs.Closing.{walked, pair_all, buyers, sellers, pair_whole, equal_seller, second_turn, second_pass, third_pass, old_passes}
use Rattle.book.proofs.laws.Counting.{by_pick}
use Rattle.book.proofs.laws.Fewest.{pairs_made}
use Rattle.book.proofs.laws.Passes.{all_append}
use Rattle.reached.specs.Loops.{more_left, none_left, Turned, none_turned, one_turned, all_turned}
use Rattle.closing.specs.Asked.{Ready, Ends, Drafts, both_off, on_side}
use Rattle.closing.proofs.Listing.{side_there, on_long, on_short}
use Rattle.closing.proofs.Follows.{Follows, stays, then, pair_follows, all_follow}
use Rattle.closing.proofs.Walks.{walk_ends}

-- ---- a pair more

pub pairs_on : (c : Bool) (ps qs : List Pair) (b : Book) → pair_all c (ps ++ qs) b ≡ pair_all c qs (pair_all c ps b)
unfolding pair_all
pairs_on c [] qs b = refl
pairs_on c (p ∷ ps) qs b = pairs_on c ps qs (pair b c 1 p.buyer p.seller p.units)

accounts_off : (b : Book) (c : Bool) (days buyer seller u : ℕ) → (pair b c days buyer seller u).accounts ≡ both_off b.accounts buyer seller u
unfolding pair freeze
accounts_off b c days buyer seller u = by_pick (λ (e : Book). e.accounts ≡ both_off b.accounts buyer seller u) b.board (λ q. refl) (λ q. refl)

drafted : {b e : Book} {ps rs : List Pair} {l m : List Account} (i j u : ℕ) → Drafts b ps l e → i < 32 → j < 32 → rs ≡ ps ++ record { buyer = i; seller = j; units = u } ∷ [] → m ≡ both_off l i j u
    → Drafts b rs m (pair e any_class 1 i j u)
unfolding pair_all
drafted {b} {e} {ps} {rs} {l} {m} i j u d h g p q = record {
  pairs = rw (p, pairs_on any_class ps (record { buyer = i; seller = j; units = u } ∷ []) b, d.pairs) refl;
  accounts = rw (q, d.accounts) (sym (accounts_off e any_class 1 i j u));
  there = rw p (all_append Ends ps (record { buyer = i; seller = j; units = u } ∷ []) d.there ((h, g), tt));
}

-- ---- a turn of the second pass

turn_follows : (k : ℕ) (b : Book) → Follows b (second_turn k b)
unfolding second_turn
turn_follows k b = by_pick (Follows b) (is_long (account_at b k).side) (λ q. go (equal_seller b k)) (λ q. stays b)
  where
    go : (f : Option ℕ) → Follows b (pair_whole b k f)
    go (Some l) = pair_follows b any_class 1 k l (account_at b k).units
    go None = stays b

pub turns_follow : (n k : ℕ) (b : Book) → Follows b (iter n k second_turn b)
unfolding iter
turns_follow zero k b = stays b
turns_follow (suc n) k b = then (turn_follows k b) (turns_follow n (k + 1) (second_turn k b))

-- the turns of the accounts from k on are left, of n; ps and l are the pairs of book b so far and the accounts after them
pub record PassedTo (b : Book) (n k : ℕ) (ps : List Pair) (l : List Account) : Type 0 where
  pub book : Book
  pub drafts : Drafts b ps l book
  pub turned : Turned second_turn n (second_pass b) k book
  pub count : book.account_count ≡ n
  pub few : n ≤ 32
  pub room : (second_pass b).match_count ≤ b.match_count + 32

-- account i of a table is a seller whose units equal those of account k
abbrev equal_units : List Account → ℕ → ℕ → Bool
equal_units l k i = is_short (get_or l i blank_account).side && eqb (get_or l i blank_account).units (get_or l k blank_account).units

-- no seller below i has as many units as account k of l; the search changes neither pairs nor accounts
pub record SoughtTo (ps : List Pair) (l : List Account) (k n : ℕ) (qs : List Pair) (m : List Account) (i : ℕ) : Type 0 where
  pub pairs : qs ≡ ps
  pub accounts : m ≡ l
  pub within : i ≤ n
  pub same : lowest (n - i) i (equal_units l k) ≡ lowest n 0 (equal_units l k)

pub none_passed : (b : Book) → Ready b → (second_pass b).match_count ≤ b.match_count + 32 → {ps : List Pair} {l : List Account} → ps ≡ [] → l ≡ b.accounts → PassedTo b b.account_count 0 ps l
unfolding second_pass pair_all
none_passed b r h p q = rw (p, q) (record { book = b; drafts = record { pairs = refl; accounts = refl; there = tt }; turned = none_turned second_turn b.account_count b; count = refl; few = r.accounts_few; room = h })

module _ {b : Book} {n k : ℕ} {ps : List Pair} {l : List Account} (s : PassedTo b n k ps l) where
  pub all_passed : n ≤ k → Drafts b ps l (second_pass b)
  all_passed h = rw (all_turned s.turned h) at s.drafts

  module _ (h : k < n) where
    -- the book after the turn of account k
    passed : {rs : List Pair} {m : List Account} (e : Book) → Drafts b rs m e → e ≡ second_turn k s.book → PassedTo b n (k + 1) rs m
    passed e d q = record { book = e; drafts = d; turned = one_turned s.turned h q; count = rw q ((turn_follows k s.book).accounts ∙ s.count); few = s.few; room = s.room }

    pub not_long : is_long (get_or l k blank_account).side ≡ false → PassedTo b n (k + 1) ps l
    unfolding second_turn
    not_long e = let w : is_long (account_at s.book k).side ≡ false = rw s.drafts.accounts at e in passed s.book s.drafts (rw w)

    pub none_sought : SoughtTo ps l k n ps l 0
    none_sought = let z : n - 0 ≡ n = omega arith in record { pairs = refl; accounts = refl; within = omega arith; same = rw z refl }

    module _ (e : is_long (get_or l k blank_account).side ≡ true) where
      -- the turn of a buyer
      found : (f : Option ℕ) → lowest n 0 (equal_units l k) ≡ f → pair_whole s.book k f ≡ second_turn k s.book
      unfolding second_turn equal_seller
      found f g =
          let w : is_long (account_at s.book k).side ≡ true = rw s.drafts.accounts at e in
          let v : lowest n 0 (equal_units s.book.accounts k) ≡ f = rw s.drafts.accounts at g in
          rw (w, s.count, v)

      module _ {qs : List Pair} {m : List Account} {i : ℕ} (o : SoughtTo ps l k n qs m i) where
        pub nobody_found : n ≤ i → PassedTo b n (k + 1) qs m
        unfolding lowest
        nobody_found g = rw (o.pairs, o.accounts) (passed s.book s.drafts (found None (sym (rw (none_left n i g) at o.same))))

        module _ (g : i < n) where
          pub seller_passed : is_short (get_or m i blank_account).side && eqb (get_or m i blank_account).units (get_or l k blank_account).units ≡ false → SoughtTo ps l k n qs m (i + 1)
          unfolding lowest
          seller_passed v =
              let w : equal_units l k i ≡ false = rw o.accounts at v in
              record { pairs = o.pairs; accounts = o.accounts; within = omega arith; same = rw (more_left n i g, w) at o.same }

          module _ (v : is_short (get_or m i blank_account).side ≡ true) (u : (get_or m i blank_account).units ≡ (get_or l k blank_account).units) where
            found_here : lowest n 0 (equal_units l k) ≡ Some i
            unfolding lowest
            found_here =
                let x : is_short (get_or l i blank_account).side ≡ true = rw o.accounts at v in
                let y : eqb (get_or l i blank_account).units (get_or l k blank_account).units ≡ true = rw o.accounts at (eq-eqb (get_or m i blank_account).units (get_or l k blank_account).units u) in
                let w : equal_units l k i ≡ true = rw (x, y) refl in
                sym (rw (more_left n i g, w) at o.same)

            -- the pair of the two is the turn
            pub seller_found : {rs : List Pair} {t : List Account} → rs ≡ qs ++ record { buyer = k; seller = i; units = (get_or l k blank_account).units } ∷ [] → t ≡ both_off m k i (get_or l k blank_account).units → PassedTo b n (k + 1) rs t
            seller_found p q =
                let z = drafted k i (get_or l k blank_account).units s.drafts (omega (arith, s.few)) (omega (arith, s.few)) (rw o.pairs at p) (rw o.accounts at q) in
                let a : (get_or l k blank_account).units ≡ (account_at s.book k).units = rw s.drafts.accounts refl in
                passed (pair s.book any_class 1 k i (get_or l k blank_account).units) z (rw a (found (Some i) found_here))

            -- and there is room for it
            pub found_room : length qs < 32
            found_room =
                let f = seller_found refl refl in
                omega (arith, ap (λ (x : Book). x.match_count) f.drafts.pairs, pairs_made any_class (qs ++ record { buyer = k; seller = i; units = (get_or l k blank_account).units } ∷ []) b, length-append qs (record { buyer = k; seller = i; units = (get_or l k blank_account).units } ∷ []), (turns_follow (n - (k + 1)) (k + 1) f.book).more, ap (λ (x : Book). x.match_count) f.turned.same, f.room)

-- ---- the third pass behind it

second_follows : (b : Book) → Follows b (second_pass b)
unfolding second_pass
second_follows b = turns_follow b.account_count 0 b

pub old_follows : (b : Book) → Follows b (old_passes b)
unfolding old_passes third_pass
old_follows b = then (second_follows b) (all_follow any_class (walked (buyers (second_pass b)) (sellers (second_pass b))) (second_pass b))

module _ (b : Book) (h : (old_passes b).match_count ≤ b.match_count + 32) where
  pub second_room : (second_pass b).match_count ≤ b.match_count + 32
  unfolding old_passes third_pass
  second_room = omega (arith, h, (all_follow any_class (walked (buyers (second_pass b)) (sellers (second_pass b))) (second_pass b)).more)

  -- who is left on either side, by the accounts after the second pass
  module _ {ps : List Pair} {l rows : List Account} {xs ys : List Listed} (d : Drafts b ps l (second_pass b)) (e : rows ≡ take b.account_count l) (n : length rows ≡ b.account_count)
      (x : xs ≡ on_side rows Side.Long) (y : ys ≡ on_side rows Side.Short) where
    taken : rows ≡ take b.account_count (second_pass b).accounts
    taken = rw d.accounts at e

    abbrev old_walk : List Pair
    old_walk = walked (buyers (second_pass b)) (sellers (second_pass b))

    walk_is : walked xs ys ≡ old_walk
    walk_is = let s = second_pass b in let a = (second_follows b).accounts in rw (x, y, on_long s b.account_count rows a taken n, on_short s b.account_count rows a taken n)

    old_drafted : pair_all any_class (ps ++ old_walk) b ≡ old_passes b
    unfolding old_passes third_pass
    old_drafted = rw (pairs_on any_class ps old_walk b, d.pairs) refl

    pub third_room : length ps + length (walked xs ys) ≤ 32
    third_room = omega (arith, h, ap length walk_is, pairs_made any_class (ps ++ old_walk) b, ap (λ (z : Book). z.match_count) old_drafted, length-append ps old_walk)

    pub old_made : {rs : List Pair} → rs ≡ ps ++ walked xs ys → pair_all any_class rs b ≡ old_passes b
    old_made q = rw (q, walk_is) old_drafted

    pub old_ends : {rs : List Pair} → Ready b → rs ≡ ps ++ walked xs ys → All Ends rs
    old_ends r q =
        let few : length rows ≤ 32 = omega (arith, n, r.accounts_few) in
        rw q (all_append Ends ps (walked xs ys) d.there (walk_ends (length xs + length ys) xs ys (rw x (side_there rows Side.Long few)) (rw y (side_there rows Side.Short few))))
