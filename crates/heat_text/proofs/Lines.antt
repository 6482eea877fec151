-- Laws of the printed heat table: every entry has ten digits, so that every line has eleven bytes. Assumes nothing.
use mathlib.Core.Path.{◌≡◌, refl}
use mathlib.Core.List.{List}
use Prim.Native.Nat.{ℕ, zero, suc, ◌+◌, ◌*◌, ◌/◌, ◌≤◌, ◌<◌, ◌^◌}
use native.Mathlib.Nat.{one-le-pow, pow-suc}
use native.Mathlib.Omega.{arith}
use lib.ListN.{length, get_or, length-append}
use Rattle.heats.specs.Each.{each_at, each as each_number}
use Rattle.heats.specs.Numerators.{numerator, heat_table, numerator_least, numerator_most}
use Rattle.text.specs.declared.print.Printer.{Printer}
use Rattle.text.specs.Print.{digits}
use Rattle.text.specs.Printer.{Prints}
use Rattle.text.specs.Ledger.{each}
use Rattle.text.specs.Page.{line}
use Rattle.text.proofs.Printing.{digits_step, digits_short, digits_longer}
use Rattle.heat_text.specs.Printed.{entry_line, printed_table}

-- a number from 10 ^ k on has k + 1 digits or more
digits_long : (k n : ℕ) → 10 ^ k ≤ n → suc k ≤ length (digits n)
digits_long zero n h = rw (digits_step n, length-append) (omega arith)
digits_long (suc k) n h =
    let g : 10 ^ k * 10 ≤ n = rw (pow-suc 10 k) at h in
    omega (arith, digits_longer n (omega (arith, one-le-pow k 10 (omega arith))), digits_long k (n / 10) (omega arith))

-- a number below 10 ^ 10 has at most ten
pub digits_ten : (n : ℕ) → n < 10 ^ 10 → length (digits n) ≤ 10
digits_ten n h = digits_short 9 n h

-- place k has the entry of the heat 4,300 + k
at_place : (k : ℕ) → k < 1_701 → get_or heat_table k 0 ≡ numerator (4_300 + k)
unfolding heat_table
at_place k h = each_at numerator 1_701 4_300 k h

pub entry_few : {l : List ℕ} → l ≡ heat_table → (k : ℕ) → k < 1_701 → get_or l k 0 < 10 ^ 10
entry_few t k h = rw (t, at_place k h) (omega (arith, numerator_most (4_300 + k) (omega arith)))

entry_many : (k : ℕ) → k < 1_701 → 10 ^ 9 ≤ get_or heat_table k 0
entry_many k h = rw (at_place k h) (omega (arith, numerator_least (4_300 + k) (omega arith)))

line_length : (k : ℕ) → k < 1_701 → length (entry_line heat_table k) ≡ 11
unfolding entry_line
line_length k h =
    let n = get_or heat_table k 0 in
    simp length-append (omega (arith, digits_short 9 n (entry_few refl k h), digits_long 9 n (entry_many k h)))

-- texts of m bytes each
each_length : (m n i : ℕ) (f : ℕ → List ℕ) → ((k : ℕ) → k < i + n → length (f k) ≡ m) → length (each n i f) ≡ m * n
unfolding each
each_length m zero i f h = omega arith
each_length m (suc n) i f h =
    simp length-append (omega (arith, h i (omega arith), each_length m n (i + 1) f (λ k g. h k (omega arith))))

-- 1,701 lines of 11 bytes
pub table_length : length printed_table ≡ 18_711
unfolding printed_table
table_length = each_length 11 1_701 0 (entry_line heat_table) (λ k g. line_length k (omega arith))

numbers : (f : ℕ → ℕ) (n i : ℕ) → length (each_number f n i) ≡ n
unfolding each_number
numbers f zero i = refl
numbers f (suc n) i = rw (numbers f n (suc i)) refl

many : length heat_table ≡ 1_701
unfolding heat_table
many = numbers numerator 1_701 4_300

-- a list that is the table, printed: all of its lines
pub table_printed : {a b : Printer} {l : List ℕ} → l ≡ heat_table → Prints a b (each (length l) 0 (λ k. line (digits (get_or l k 0)))) → Prints a b printed_table
unfolding printed_table entry_line
table_printed t p = rw (t, many) at p

pub table_next : {a b : Printer} → Prints a b printed_table → b.at ≡ a.at + 18_711
table_next p = omega (arith, p.put.next, table_length)
