-- The codes of the parties that Terminate names. Assumes nothing.
use Rattle.std.specs.Prelude.{◌≡◌, ◌<◌, ℕ, Result, MatchResult}
use Rattle.measuring.specs.declared.Party.{Party}
use Rattle.book.specs.declared.refusals.Refusal.{Refusal}

-- "party (0 buyer, 1 seller, 2 both)"
abbrev pub party_number : Party → ℕ
party_number Party.Buyer = 0
party_number Party.Seller = 1
party_number Party.Both = 2

-- a code is read as the party that has it; "8 a code outside its set"
abbrev pub Decodes : ℕ → Result Party Refusal → Type 0
Decodes code r = MatchResult r (λ p. party_number p ≡ code) (λ e. (e ≡ Refusal.OutsideSet) × (2 < code))
