-- Several vessels to a match: one that is loaded in one vessel is paid as a whole one is; any one to eight vessels whose dues are D are accepted; and what the vessels of a match come to over
-- every list of calls. By cases on the answer, then over the list. Assumes nothing.
use Rattle.std.specs.Prelude.{◌≡◌, ◌≢◌, refl, Bool, true, false, not, ◌&&◌, List, [], ◌∷◌, ◌++◌, ℕ, ◌+◌, ◌-◌, ◌*◌, ◌≤◌, ◌<◌, ltb, leb, eqb, length, get_or, set, Option, Some, None}
use Rattle.std.proofs.Common.{sym, ap, ◌∙◌, subst, arith, add-zero, zero-add, leb-false, ltb-false, le-ltb, lt-ltb, ne_eqb, eq-eqb, get_or-set_same, get_or-set_other, add_assoc, append-nil, append_assoc}
use Rattle.std.proofs.lemmas.Bool.{lt-leb}
use Rattle.heats.specs.HeatTables.{IsHeatTable}
use Rattle.coal.specs.Choice.{pick}
use Rattle.coal.specs.Coal.{coal_weight}
use Rattle.book.specs.Types.{Stage, Match, Book, Outcome, Call}
use Rattle.book.specs.Rows.{blank_match, any_class, offer_units, is_paid_for, is_prepaid, with_held, with_vessel}
use Rattle.book.specs.Tables.{account_at, match_at, pay, charge}
use Rattle.book.specs.Codes.{sample}
use Rattle.book.specs.Answers.{refuse_if, accept, is_accepted}
use Rattle.book.specs.Opening.{opening}
use Rattle.book.specs.Pairing.{pair}
use Rattle.book.specs.Closing.{lapse_offers}
use Rattle.book.specs.Settlement.{value, first_part, weight_due, vessel_amount, leaves_short, bad_due, measured, record_vessel, loaded, measure, blamed, terminated, punish}
use Rattle.book.specs.Calls.{step}
use Rattle.book.specs.Entries.{Entry, plus, minus, measure_entries, vessel_entries, entries}
use Rattle.book.specs.Lists.{after}
use Rattle.book.specs.Vessels.{whole_amount, measure_whole, OneVessel, Vessel, measures, dues, InRange, EachInRange, AllAccepted, UpToEight, of_measure, over_measures, amount_of, entries_measured, EachVessels}
use Rattle.book.proofs.laws.Counting.{by_pick, by_eq, impossible}
use Rattle.book.proofs.laws.Answered.{MayLoad, Answered, answered, of_opening}
use Rattle.book.proofs.laws.Sound.{SoundMatch, Core, SoundTables}
use Rattle.book.proofs.laws.Settling.{weight_some, rank, Settlement, pay_settles, invoice_settles, hand_over_settles, auction_settles}
use Rattle.book.proofs.laws.Pairing.{Pairable, pair_core, paired_new, paired_old, paired_matches}
use Rattle.book.proofs.laws.Calls.{opening_tables}
use Rattle.book.proofs.laws.Passes.{passes_keep}
use Rattle.book.proofs.laws.Taking.{take_pairable}
use Rattle.book.proofs.laws.Steps.{step_tables, after_tables, reached_tables}

-- ---- one due weight

never : (t : Bool) → t && false ≡ false
never true = refl
never false = refl

module _ (b : Book) (c : Match) (d : ℕ) (s : 0 < d) where
  -- the last vessel of a match is not refused, whichever it is, and leaves nothing to be loaded
  lasts : c.loaded + d ≡ weight_due b c → (bad_due b c d ≡ false) × (leaves_short b c d ≡ false)
  unfolding bad_due leaves_short
  lasts h =
      let above : ltb (weight_due b c) (c.loaded + d) ≡ false = le-ltb _ _ (omega arith) in
      let below : ltb (c.loaded + d) (weight_due b c) ≡ false = le-ltb _ _ (omega arith) in
      (rw (ne_eqb d 0 (λ e. absurd (omega arith)), above, below) (never (eqb c.vessels 7)), below)

  -- nor is one of the first seven that leaves the match short
  waits : c.loaded + d < weight_due b c → c.vessels ≤ 6 → (bad_due b c d ≡ false) × (leaves_short b c d ≡ true)
  unfolding bad_due leaves_short
  waits h f =
      let above : ltb (weight_due b c) (c.loaded + d) ≡ false = le-ltb _ _ (omega arith) in
      (rw (ne_eqb d 0 (λ e. absurd (omega arith)), above, ne_eqb c.vessels 7 (λ e. absurd (omega arith))) refl, lt-ltb _ _ h)

-- ---- a match loaded in one vessel

-- both ask the same: refused with the same number, or on with the test false
both_ask : (t : Bool) (n : ℕ) (b : Book) {o s : Outcome} → (t ≡ false → o ≡ s) → refuse_if t n b o ≡ refuse_if t n b s
both_ask true n b h = refl
both_ask false n b h = h refl

pub one_vessel : OneVessel
unfolding measure measure_whole loaded weight_due vessel_amount whole_amount
one_vessel b h j e w q m s f a = search (both_ask, last) depth 16
  where
    last : (v x : ℕ) → leb b.match_count j ≡ false
        → refuse_if (bad_due b (match_at b j) (weight_due b (match_at b j))) 32 b (accept v (loaded b j (match_at b j) (weight_due b (match_at b j)) x)) ≡ accept v (measured b j (match_at b j) x)
    last v x i =
        let r = reached_tables h in
        let p = leb-false _ _ i in
        let k = r.core.matches.rows j p in
        let none = k.loaded_none e in
        let z = lasts b (match_at b j) (weight_due b (match_at b j)) (weight_some b r j p) (omega (arith, none)) in
        let counted : (match_at b j).counted ≡ 0 = omega (arith, k.counted_few) in
        rw (z.0, z.1, counted, zero-add) refl

-- ---- up to eight vessels

-- on, with the test false
past : (t : Bool) (n : ℕ) (b : Book) {o r : Outcome} → t ≡ false → o ≡ r → refuse_if t n b o ≡ r
past true n b h e = cc
past false n b h e = e

may : (b : Book) → SoundTables b → (j : ℕ) → j < b.match_count → (match_at b j).stage ≡ Stage.Prepaid → (v : Vessel) → InRange v → bad_due b (match_at b j) v.due ≡ false
    → step b (Call.Measure j v.sample v.due) ≡ accept (coal_weight v.due v.sample.weight v.sample.moisture).over (loaded b j (match_at b j) v.due (amount_of j b v.sample v.due))
unfolding step measure
may b r j p t v m g =
    let board : not b.board ≡ false = rw ((r.core.matches.rows j p).prepaid_board t) refl in
    let prepaid : not (is_prepaid (match_at b j).stage) ≡ false = rw t refl in
    search (past, lt-leb, le-ltb) depth 16

all_loaded : (b : Book) → SoundTables b → (j : ℕ) → j < b.match_count → (match_at b j).stage ≡ Stage.Prepaid → (vs : List Vessel) → EachInRange vs
    → (match_at b j).vessels + length vs ≤ 8 → (match_at b j).loaded + dues vs ≡ weight_due b (match_at b j) → AllAccepted b j vs × ((match_at (after b (measures j vs)) j).stage ≡ Stage.Held)
unfolding after loaded weight_due coal_weight measured pay charge
all_loaded b r j p t [] e n q = absurd (omega (arith, (r.core.matches.rows j p).loaded_short t))
all_loaded b r j p t (v ∷ []) e n q =
    let c = match_at b j in
    let z = lasts b c v.due e.0.some_due (omega arith) in
    let k = may b r j p t v e.0 z.0 in
    ((ap (λ (o : Outcome). o.answer) k, tt), ap (λ (o : Outcome). (match_at o.book j).stage) k ∙ rw (z.1, get_or-set_same b.matches j _ blank_match (omega (arith, p, r.core.matches.size, r.core.matches.few))) refl)
all_loaded b r j p t (v ∷ w ∷ vs) e n q =
    let c = match_at b j in
    let x = amount_of j b v.sample v.due in
    let z = waits b c v.due e.0.some_due (omega (arith, e.1.0.some_due)) (omega arith) in
    let k = may b r j p t v e.0 z.0 in
    let same : (step b (Call.Measure j v.sample v.due)).book ≡ record_vessel b j v.due x = ap (λ (o : Outcome). o.book) k ∙ rw (z.1) refl in
    let g : match_at (record_vessel b j v.due x) j ≡ with_vessel c v.due x = get_or-set_same b.matches j _ blank_match (omega (arith, p, r.core.matches.size, r.core.matches.few)) in
    let rest = all_loaded (record_vessel b j v.due x) (subst SoundTables same (step_tables b (Call.Measure j v.sample v.due) r)) j p (ap (λ (m : Match). m.stage) g ∙ t) (w ∷ vs) e.1
    (omega (arith, ap (λ (m : Match). m.vessels) g)) (omega (arith, ap (λ (m : Match). m.loaded) g, ap (λ (m : Match). weight_due b m) g)) in
    let then = subst (λ (y : Book). AllAccepted y j (w ∷ vs) × ((match_at (after y (measures j (w ∷ vs))) j).stage ≡ Stage.Held)) (sym same) rest in
    ((ap (λ (o : Outcome). o.answer) k, then.0), then.1)

pub up_to_eight : UpToEight
up_to_eight b h j p t e vs m n q =
    let r = reached_tables h in
    let none = (r.core.matches.rows j p).loaded_none e in
    all_loaded b r j p t vs m (omega arith) (omega arith)

-- ---- over a list

-- no vessel, with no due kilograms and no amount
abbrev Nothing : ℕ → ℕ → ℕ → Type 0
Nothing n d a = (n ≡ 0) × (d ≡ 0) × (a ≡ 0)

-- a match of a book of T tonnes, of which n vessels are measured, with d due kilograms, amounts of a and the entries l
record Row (tonnes : ℕ) (m : Match) (n d a : ℕ) (l : List Entry) : Type 0 where
  paired : m.stage ≡ Stage.Paired → Nothing n d a
  none_yet : m.stage ≡ Stage.Paired → l ≡ []
  paid_for : is_paid_for m.stage ≡ true → n ≡ 0
  vessels : m.stage ≡ Stage.Prepaid → m.vessels ≡ n
  loaded : m.stage ≡ Stage.Prepaid → m.loaded ≡ d
  counted : m.stage ≡ Stage.Prepaid → m.counted ≡ a
  none_paid : m.stage ≡ Stage.Prepaid → l ≡ []
  added_up : m.stage ≡ Stage.Held → 0 < n → d ≡ m.units * tonnes * 1_000
  sum_paid : m.stage ≡ Stage.Held → 0 < n → l ≡ plus m.buyer (m.units * m.price * tonnes) ∷ minus m.buyer a ∷ plus m.seller (first_part a) ∷ []
  rest_held : m.stage ≡ Stage.Held → 0 < n → m.held ≡ a - first_part a
  dropped : is_prepaid m.stage ≡ false → Nothing m.vessels m.loaded m.counted

-- match j of a table, so far
record Progress (tonnes count : ℕ) (ms : List Match) (j n d a : ℕ) (l : List Entry) : Type 0 where
  few : n ≤ 8
  absent : count ≤ j → Nothing n d a
  none_yet : count ≤ j → l ≡ []
  row : j < count → Row tonnes (get_or ms j blank_match) n d a l

-- ---- a settlement

early : (s : Stage) → rank s < 1 → s ≡ Stage.Paired
early Stage.Paired h = refl
early Stage.Prepaid h = absurd (omega arith)
early Stage.Held h = absurd (omega arith)
early Stage.Closed h = absurd (omega arith)
early Stage.Ended h = absurd (omega arith)
early Stage.Funded h = absurd (omega arith)
early Stage.Awaiting h = absurd (omega arith)

paid_rank : (s : Stage) → is_paid_for s ≡ true → rank s ≡ 1
paid_rank Stage.Paired e = cc
paid_rank Stage.Prepaid e = cc
paid_rank Stage.Held e = cc
paid_rank Stage.Closed e = cc
paid_rank Stage.Ended e = cc
paid_rank Stage.Funded e = refl
paid_rank Stage.Awaiting e = refl

module _ {tonnes : ℕ} {m : Match} {n d a : ℕ} {l : List Entry} (r : Row tonnes m n d a l) where
  -- before a match is held, it has vessels only where it is prepaid
  unmeasured : (m.stage ≡ Stage.Prepaid → ⊥) → rank m.stage < 2 → n ≡ 0
  unmeasured g = go m.stage refl
    where
      go : (t : Stage) → m.stage ≡ t → rank t < 2 → n ≡ 0
      go Stage.Paired e h = (r.paired e).0
      go Stage.Prepaid e h = absurd (g e)
      go Stage.Held e h = absurd (omega arith)
      go Stage.Closed e h = absurd (omega arith)
      go Stage.Ended e h = absurd (omega arith)
      go Stage.Funded e h = r.paid_for (ap is_paid_for e)
      go Stage.Awaiting e h = r.paid_for (ap is_paid_for e)

  -- a match is settled, other than by its last vessel
  row_settled : (x : ℕ) (s : Stage) → rank m.stage < rank s → (s ≡ Stage.Held → m.stage ≡ Stage.Prepaid → ⊥) → Row tonnes (with_held m x s) n d a l
  row_settled x s h g = record {
    paired = λ e. absurd (omega (arith, ap rank e));
    none_yet = λ e. absurd (omega (arith, ap rank e));
    paid_for = λ e. (r.paired (early m.stage (omega (arith, paid_rank s e)))).0;
    vessels = λ e. sym (r.paired (early m.stage (omega (arith, ap rank e)))).0;
    loaded = λ e. sym (r.paired (early m.stage (omega (arith, ap rank e)))).1;
    counted = λ e. sym (r.paired (early m.stage (omega (arith, ap rank e)))).2;
    none_paid = λ e. r.none_yet (early m.stage (omega (arith, ap rank e)));
    added_up = λ e k. absurd (omega (arith, unmeasured (g e) (omega (arith, ap rank e))));
    rest_held = λ e k. absurd (omega (arith, unmeasured (g e) (omega (arith, ap rank e))));
    sum_paid = λ e k. absurd (omega (arith, unmeasured (g e) (omega (arith, ap rank e))));
    dropped = λ e. (refl, refl, refl);
  }

-- a match that is new
row_new : {tonnes n d a : ℕ} {m : Match} {l : List Entry} → m.stage ≡ Stage.Paired → Nothing m.vessels m.loaded m.counted → Nothing n d a → l ≡ [] → Row tonnes m n d a l
row_new e z p q = record {
  paired = λ f. p;
  none_yet = λ f. q;
  paid_for = λ f. impossible (cc);
  vessels = λ f. impossible (cc);
  loaded = λ f. impossible (cc);
  counted = λ f. impossible (cc);
  none_paid = λ f. impossible (cc);
  added_up = λ f g. impossible (cc);
  sum_paid = λ f g. impossible (cc);
  rest_held = λ f g. impossible (cc);
  dropped = λ f. z;
}

-- match j of a table that has another row in place i
put_other : {t k : ℕ} {ms : List Match} {j n d a : ℕ} {l : List Entry} (i : ℕ) (r : Match) → j ≢ i → Progress t k ms j n d a l → Progress t k (set ms i r) j n d a l
put_other {ms = ms} {j = j} i r e p = record { few = p.few; absent = p.absent; none_yet = p.none_yet; row = λ h. rw (get_or-set_other ms i j r blank_match e) (p.row h) }

-- and one that has another row itself
put_here : {t k j n d a : ℕ} {l : List Entry} (ms : List Match) (r : Match) → n ≤ 8 → j < k → j < length ms → Row t r n d a l → Progress t k (set ms j r) j n d a l
put_here {j = j} ms r f h i p = record { few = f; absent = λ g. absurd (omega arith); none_yet = λ g. absurd (omega arith); row = λ g. rw (get_or-set_same ms j r blank_match i) p }

module _ {b : Book} (r : SoundTables b) {j n d a : ℕ} {l : List Entry} (p : Progress b.tonnes b.match_count b.matches j n d a l) where
  cell : (i : ℕ) → i < b.match_count → i < length b.matches
  cell i h = omega (arith, r.core.matches.size, r.core.matches.few)

  -- match i is at another stage
  staged : (i x : ℕ) (s : Stage) → i < b.match_count → rank (match_at b i).stage < rank s → (s ≡ Stage.Held → (match_at b i).stage ≡ Stage.Prepaid → ⊥)
      → Progress b.tonnes b.match_count (set b.matches i (with_held (match_at b i) x s)) j n d a l
  staged i x s h g k = by_eq j i
      (λ e. rw (← e) (put_here b.matches (with_held (match_at b j) x s) p.few (rw e h) (cell j (rw e h)) (row_settled (p.row (rw e h)) x s (rw e g) (rw e k))))
      (λ e. put_other i _ e p)

  settled : {i : ℕ} {e : Book} {es : List Entry} (s : Settlement b i es e) → ((match_at b i).stage ≡ Stage.Prepaid → ⊥) → Progress e.tonnes e.match_count e.matches j n d a l
  settled {i} s g = subst (λ (z : Book). Progress z.tonnes z.match_count z.matches j n d a l) (sym s.same) (staged i s.held s.stage s.there s.later (λ _. g))

-- ---- a pairing

paired : (b : Book) (c : Bool) (days x y u : ℕ) {j n d a : ℕ} {l : List Entry} → days ≤ 2 → Core b → Pairable b x y u → Progress b.tonnes b.match_count b.matches j n d a l
    → Progress (pair b c days x y u).tonnes (pair b c days x y u).match_count (pair b c days x y u).matches j n d a l
paired b c days x y u {j} {n} {d} {a} h r p s =
    let e = pair b c days x y u in
    let q = pair_core b c days x y u h p r in
    let k = paired_matches q in
    record {
      few = s.few;
      absent = λ g. s.absent (omega arith);
      none_yet = λ g. s.none_yet (omega arith);
      row = λ g. by_eq j b.match_count
          (λ z. rw (z, paired_new p q r) (row_new refl (refl, refl, refl) (s.absent (omega arith)) (s.none_yet (omega arith))))
          (λ z. rw (paired_old p q r j z, ap (λ (w : Book). w.tonnes) q.same) (s.row (omega arith)));
    }

-- ---- a vessel

-- n, d, a and l, and what a call adds to them that is no Measure of match j
stay : {t k : ℕ} {ms : List Match} {j n d a : ℕ} {l : List Entry} → Progress t k ms j n d a l → Progress t k ms j (n + 0) (d + 0) (a + 0) (l ++ [])
stay {n = n} {d} {a} {l} p = rw (add-zero n, add-zero d, add-zero a, append-nil l) p

-- a book and entries, by one test
by_test : (P : Book → List Entry → Type 0) (t : Bool) {e d : Book} {es ds : List Entry} → (t ≡ true → P e es) → (t ≡ false → P d ds) → P (pick t e d) (pick t es ds)
by_test P true f g = f refl
by_test P false f g = g refl

module _ {b : Book} (r : SoundTables b) {j n d a : ℕ} {l : List Entry} (p : Progress b.tonnes b.match_count b.matches j n d a l) (h : j < b.match_count) (t : (match_at b j).stage ≡ Stage.Prepaid) (w x : ℕ) (g : MayLoad b (match_at b j) w) where
  m : SoundMatch b.account_count b.day b.tonnes b.board (match_at b j)
  m = r.core.matches.rows j h

  s : Row b.tonnes (match_at b j) n d a l
  s = p.row h

  -- "The match stays prepaid"
  vessel_recorded : leaves_short b (match_at b j) w ≡ true → Progress b.tonnes b.match_count (set b.matches j (with_vessel (match_at b j) w x)) j (n + 1) (d + w) (a + x) (l ++ [])
  vessel_recorded e = put_here b.matches (with_vessel (match_at b j) w x) (omega (arith, m.vessels_few, s.vessels t)) h (cell r p j h) (record {
    paired = λ f. impossible (cc);
    none_yet = λ f. impossible (cc);
    paid_for = λ f. impossible (cc);
    vessels = λ f. ap (λ (y : ℕ). y + 1) (s.vessels t);
    loaded = λ f. ap (λ (y : ℕ). y + w) (s.loaded t);
    counted = λ f. ap (λ (y : ℕ). y + x) (s.counted t);
    none_paid = λ f. rw (s.none_paid t) refl;
    added_up = λ f _. impossible (cc);
    sum_paid = λ f _. impossible (cc);
    rest_held = λ f _. impossible (cc);
    dropped = λ f. impossible (cc);
  })

  -- "until the dues add up to D; then B, the sum, is paid"
  last_vessel : leaves_short b (match_at b j) w ≡ false
      → Progress b.tonnes b.match_count (measured b j (match_at b j) ((match_at b j).counted + x)).matches j (n + 1) (d + w) (a + x) (l ++ measure_entries b (match_at b j) ((match_at b j).counted + x))
  unfolding measured measure_entries value pay charge leaves_short weight_due
  last_vessel e = put_here b.matches _ (omega (arith, m.vessels_few, s.vessels t)) h (cell r p j h) (record {
    paired = λ f. impossible (cc);
    none_yet = λ f. impossible (cc);
    paid_for = λ f. impossible (cc);
    vessels = λ f. impossible (cc);
    loaded = λ f. impossible (cc);
    counted = λ f. impossible (cc);
    none_paid = λ f. impossible (cc);
    added_up = λ f _. omega (arith, s.loaded t, g.within, ltb-false _ _ e);
    sum_paid = λ f _. rw (s.none_paid t, s.counted t) refl;
    rest_held = λ f _. rw (s.counted t) refl;
    dropped = λ f. (refl, refl, refl);
  })

  vessel_here : Progress (loaded b j (match_at b j) w x).tonnes (loaded b j (match_at b j) w x).match_count (loaded b j (match_at b j) w x).matches j (n + 1) (d + w) (a + x) (l ++ vessel_entries b (match_at b j) w x)
  unfolding loaded vessel_entries measured pay charge
  vessel_here = by_test (λ (z : Book) (es : List Entry). Progress z.tonnes z.match_count z.matches j (n + 1) (d + w) (a + x) (l ++ es)) (leaves_short b (match_at b j) w) vessel_recorded last_vessel

vessel_other : (b : Book) {j n d a : ℕ} {l : List Entry} (i w x : ℕ) → j ≢ i → Progress b.tonnes b.match_count b.matches j n d a l
    → Progress (loaded b i (match_at b i) w x).tonnes (loaded b i (match_at b i) w x).match_count (loaded b i (match_at b i) w x).matches j n d a l
unfolding loaded measured pay charge
vessel_other b {j} {n} {d} {a} {l} i w x e p =
    by_pick (λ (z : Book). Progress z.tonnes z.match_count z.matches j n d a l) (leaves_short b (match_at b i) w) (λ _. put_other i _ e p) (λ _. put_other i _ e p)

-- ---- Terminate

-- penalties leave the matches
fined : (b : Book) (m : Match) (x y : Option ℕ) → ((punish b m x y).tonnes ≡ b.tonnes) × ((punish b m x y).match_count ≡ b.match_count) × ((punish b m x y).matches ≡ b.matches)
unfolding punish pay charge
fined b m None None = (refl, refl, refl)
fined b m (Some x) None = (refl, refl, refl)
fined b m None (Some y) = (refl, refl, refl)
fined b m (Some x) (Some y) = (refl, refl, refl)

ended : {b : Book} → SoundTables b → {j n d a : ℕ} {l : List Entry} → Progress b.tonnes b.match_count b.matches j n d a l → (i party : ℕ) → i < b.match_count → (match_at b i).stage ≡ Stage.Prepaid
    → Progress (terminated b i (match_at b i) party).tonnes (terminated b i (match_at b i) party).match_count (terminated b i (match_at b i) party).matches j n d a l
unfolding terminated pay
ended {b} r p i party h e =
    let m = match_at b i in
    let z = fined (pay b m.buyer (value b m)) m (blamed b (not (eqb party 1))) (blamed b (not (eqb party 0))) in
    rw (z.0, z.1, z.2) (staged r p i 0 Stage.Ended h (omega (arith, ap rank e)) (λ f. impossible (cc)))

-- ---- the calls

progress : {b : Book} {c : Call} {o : Outcome} → Answered b c o → SoundTables b → {j n d a : ℕ} {l : List Entry} → Progress b.tonnes b.match_count b.matches j n d a l
    → Progress o.book.tonnes o.book.match_count o.book.matches j (n + pick (is_accepted o.answer) (of_measure 0 (λ e x w. 1) j b c) 0) (d + pick (is_accepted o.answer) (of_measure 0 (λ e x w. w) j b c) 0)
    (a + pick (is_accepted o.answer) (of_measure 0 (amount_of j) j b c) 0) (l ++ pick (is_accepted o.answer) (of_measure [] (λ e x w. entries e (Call.Measure j x w)) j b c) [])
unfolding of_measure entries pay charge lapse_offers
progress (Answered.refused k h) r p = stay p
progress (Answered.joins g) r p = stay p
progress (Answered.deposits g) r p = stay p
progress (Answered.withdraws g) r p = stay p
progress (Answered.trades g) r p = stay p
progress (Answered.lodges g) r p = stay p
progress (Answered.strikes g) r p = stay p
progress (Answered.declares g) r p = stay p
progress (Answered.offers g) r p = stay p
progress (Answered.retracts g) r p = stay p
progress {b} (Answered.takes {buyer = x} {seller = y} g) r p = stay (paired b any_class 2 x y (offer_units (account_at b y).offer) (omega arith) r.core (take_pairable r g) p)
progress (Answered.days g) r p = stay p
progress {b} (Answered.closes {budget = budget} g) r {j} {n} {d} {a} {l} p =
    stay (passes_keep (λ (z : Book). Progress z.tonnes z.match_count z.matches j n d a l) (λ e c x y u k g h. paired e c 1 x y u (omega arith) k g h) b budget (r.matches_open g.is_open) r.core p).kept
progress {b} (Answered.pays {j = i} g) r p = stay (settled r p (pay_settles b r i g.there g.paired) (λ e. impossible (cc (e, g.paired))))
progress {b} (Answered.measures {j = i} {w = w} {q = q} {m = m} {s = s} {f = f} {a = v} {d = u} g) r {j} {n} {d} {a} {l} p =
    by_eq i j
    (λ e.
    let x = vessel_amount b (match_at b i) u w q m s f v in
    let z = loaded b i (match_at b i) u x in
    let p' : Progress b.tonnes b.match_count b.matches i n d a l = subst (λ (k : ℕ). Progress b.tonnes b.match_count b.matches k n d a l) (sym e) p in
    subst (λ (k : ℕ). Progress z.tonnes z.match_count z.matches k (n + pick (eqb i k) 1 0) (d + pick (eqb i k) u 0) (a + pick (eqb i k) (amount_of k b (sample w q m s f v) u) 0) (l ++ pick (eqb i k) (entries b (Call.Measure k (sample w q m s f v) u)) [])) e
    (rw (eq-eqb i i refl) (vessel_here r p' g.there g.prepaid u x g.due)))
    (λ e. rw (ne_eqb i j e) (stay (vessel_other b i u _ (λ z. e (sym z)) p)))
progress {b} (Answered.invoices {j = i} g) r p = stay (settled r p (invoice_settles b r i g.there g.in_hold) (λ e. impossible (cc (e, g.in_hold))))
progress {b} (Answered.terminates {j = i} {party = x} g) r p = stay (ended r p i x g.there g.prepaid)
progress {b} (Answered.hands_over {j = i} g) r p = stay (settled r p (hand_over_settles b r i g.there g.funded) (λ e. impossible (cc (e, g.funded))))
progress {b} (Answered.auctions {j = i} {winner = k} {x = x} g) r p = stay (settled r p (auction_settles b r i g.there g.awaiting k x g.winner_there g.few) (λ e. impossible (cc (e, g.awaiting))))

-- ---- lists

list_progress : (b : Book) (cs : List Call) → SoundTables b → {j n d a : ℕ} {l : List Entry} → Progress b.tonnes b.match_count b.matches j n d a l
    → Progress (after b cs).tonnes (after b cs).match_count (after b cs).matches j (n + over_measures (λ e x w. 1) j b cs) (d + over_measures (λ e x w. w) j b cs) (a + over_measures (amount_of j) j b cs) (l ++ entries_measured j b cs)
unfolding after over_measures entries_measured
list_progress b [] r p = stay p
list_progress b (c ∷ cs) r {j} {n} {d} {a} {l} p =
    rw (← add_assoc n _ _, ← add_assoc d _ _, ← add_assoc a _ _, ← append_assoc l _ _) (list_progress (step b c).book cs (step_tables b c r) (progress (answered b c) r p))

none_measured : (heats : List ℕ) → IsHeatTable heats → (kind t r p j : ℕ) → Progress (opening heats kind t r p).book.tonnes (opening heats kind t r p).book.match_count (opening heats kind t r p).book.matches j 0 0 0 []
none_measured heats i kind t r p j =
    of_opening (λ (b : Book). Progress b.tonnes b.match_count b.matches j 0 0 0 []) (λ heats s board t r p g₁ g₂ g₃ g₄ g₅. record { few = omega arith; absent = λ h. (refl, refl, refl); none_yet = λ h. refl; row = λ h. absurd (omega arith) }) heats i kind t r p

pub vessels : EachVessels
unfolding value weight_due measure_entries
vessels heats i kind t r p a cs j h =
    let b = (opening heats kind t r p).book in
    let o = opening_tables heats i kind t r p in
    let m = (after_tables b cs o).core.matches.rows j h in
    let g : Progress (after b cs).tonnes (after b cs).match_count (after b cs).matches j (over_measures (λ e x w. 1) j b cs) (over_measures (λ e x w. w) j b cs) (over_measures (amount_of j) j b cs) (entries_measured j b cs) =
    rw (← zero-add (over_measures (λ e x w. 1) j b cs), ← zero-add (over_measures (λ e x w. w) j b cs), ← zero-add (over_measures (amount_of j) j b cs)) (list_progress b cs o (none_measured heats i kind t r p j)) in
    let s = g.row h in
    record {
      at_most_eight = g.few;
      short = λ e. omega (arith, m.loaded_short e, s.loaded e);
      value_held = m.prepaid_value;
      recorded = s.vessels;
      loaded = s.loaded;
      counted = s.counted;
      none_paid = s.none_paid;
      added_up = s.added_up;
      sum_paid = s.sum_paid;
      rest_held = s.rest_held;
      dropped = s.dropped;
    }
