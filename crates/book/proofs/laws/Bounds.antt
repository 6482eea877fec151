-- How large the value of a match, its weight due and the amount of a vessel can be, from the bounds of crate coal. Assumes nothing.
use Rattle.std.specs.Prelude.{ℕ, ◌+◌, ◌*◌, ◌≤◌}
use Rattle.std.proofs.Common.{mul-le-mul, arith}
use Rattle.heats.specs.HeatTables.{IsHeatTable}
use Rattle.coal.specs.Coal.{coal_price, coal_weight}
use Rattle.coal.proofs.laws.Bounds.{coal_price_most, coal_weight_most, amount_near}
use Rattle.book.specs.Types.{Match, Book}
use Rattle.book.specs.Rows.{heat_value}
use Rattle.book.specs.Settlement.{value, weight_due, vessel_amount}

-- "V of a match": at most 1,000 × 1,000,000 × 20,000
pub value_most : (b : Book) (m : Match) → m.units ≤ 1_000 → m.price ≤ 1_000_000 → b.tonnes ≤ 20_000 → value b m ≤ 20_000_000_000_000
unfolding value
value_most b m h g f = mul-le-mul (mul-le-mul h g) f

-- "D": at most 20,000,000 tonnes
pub weight_due_most : (b : Book) (c : Match) → c.units ≤ 1_000 → b.tonnes ≤ 20_000 → weight_due b c ≤ 20_000_000_000
unfolding weight_due
weight_due_most b c h t = let d : c.units * b.tonnes ≤ 20_000_000 = mul-le-mul h t in omega arith

-- a thousand times the amount of a vessel with d due kilograms
pub vessel_most : (b : Book) (c : Match) (d w q m s f a : ℕ) → IsHeatTable b.heats → c.price ≤ 1_000_000 → 1_000 * vessel_amount b c d w q m s f a ≤ 1_090_909 * (d + 500_000) + 500
unfolding vessel_amount
vessel_most b c d w q m s f a i h =
    let p = coal_price b.heats c.price (heat_value c.heat) q s f a in
    let v = (coal_weight d w m).settled in
    let most : p * v ≤ 1_090_909 * (d + 500_000) = mul-le-mul (coal_price_most b.heats c.price (heat_value c.heat) q s f a i h) (coal_weight_most d w m) in
    omega (arith, amount_near p v)
