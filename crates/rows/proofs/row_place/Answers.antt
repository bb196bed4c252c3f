-- `rows::row_place` meets its contract.
use mathlib.Core.Path.{◌≡◌}
use mathlib.Core.Bool.{true, ◌&&◌}
use Prim.Native.Nat.{◌+◌, ◌-◌, ◌*◌, ◌≤◌}
use native.Mathlib.Omega.{arith}
use lib.ListN.{get_or, length}
use Rattle.rules.specs.Ledger.{written}
use Rattle.rules.specs.Lookup.{count_right}
use Rattle.rules.proofs.Places.{row_from_1, row_whole}
use Rattle.rows.proofs.Part.{row_by, place_there, place_none}
use Rattle.rows.proofs.row_place.Goals as goal
use Rattle.rows.proofs.row_place.Goals.{Then-right-number}

-- row `number` is there, so it has a number from 1 on and ends within the table
abbrev Asked : Then-right-number → Type 0
Asked c = let a = c.args in
    count_right a.header_len a.c a.len a.most a.header.now a.t.now && written (get_or a.header.now a.c 0) a.number ≡ true

there : (c : Then-right-number) → Asked c
there c =
    let a = c.args in
    row_by a.header_len a.c a.len a.most a.header.now a.t.now a.number c.count_right-right.ensures c.at-count.ensures c.if-right-number.true

fits : (c : Then-right-number) → let a = c.args in (1 ≤ a.number) × ((a.number - 1) * a.len + a.len ≤ length a.t.now)
fits c =
    let a = c.args in (
      row_from_1 a.header_len a.c a.len a.most a.header.now a.t.now a.number (there c),
      row_whole a.header_len a.c a.len a.most a.header.now a.t.now a.number (there c),
    )

pub overflow_mul-result : goal.overflow_mul-result
overflow_mul-result c = omega (arith, (fits c).1)

pub returns-then-right-number : goal.returns-then-right-number
returns-then-right-number c =
    let a = c.args in
    place_there a.header_len a.c a.len a.most a.header.now a.t.now a.number (there c)

pub returns-else-right-number : goal.returns-else-right-number
returns-else-right-number c =
    let a = c.args in
    let e = row_by a.header_len a.c a.len a.most a.header.now a.t.now a.number c.count_right-right.ensures c.at-count.ensures c.if-right-number.false in
    place_none a.header_len a.c a.len a.most a.header.now a.t.now a.number e
