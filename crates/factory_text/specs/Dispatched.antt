-- What the function promises of a list of a factory's calls. Assumes nothing.
use Rattle.std.specs.Prelude.{◌≡◌, ⊤, List, ℕ, ◌+◌, ◌*◌, ◌≤◌, length, take, drop, Result, Ok, Err}
use Rattle.factory.specs.declared.Call.{Call}
use Rattle.factory.specs.Types.{Factory}
use Rattle.factory.specs.Lists.{after, claimed, shared_out, uncollected, waiting}
use Rattle.reader.specs.Lines.{lines, later}
use Rattle.factory_text.specs.Lists.{calls_of, line_one, dispatch_output}

-- 82 bytes for each byte of an input, since a day's `ok` with 32 shares of at most four digits has at most 163 and its line two; and 24 for line one
abbrev pub room : ℕ → ℕ
room n = 82 * n + 24

-- from the factory that line one made, where it made one, "the units claimed on accepted arrivals equal those shared out, those that leavers left uncollected and those still waiting"
abbrev pub Balanced : Result Factory ℕ → List Call → Type 0
Balanced (Ok f) cs = claimed f cs ≡ shared_out f cs + uncollected f cs + waiting (after f cs)
Balanced (Err n) cs = ⊤

-- the first r bytes are the output of the list, and those after them are as before; and the calls that it made are balanced
pub record Dispatched (input before out : List ℕ) (r : ℕ) : Type 0 where
  pub within : r ≤ length out
  pub counted : r ≡ length (take r out)
  pub text : take r out ≡ dispatch_output input
  pub kept : drop r out ≡ drop r before
  pub balanced : Balanced (line_one input) (calls_of (later (lines input)))
