use Rattle.std.proofs.Common.{◌≡◌, ◌≤◌, ◌+◌, arith, ap}
use Rattle.luau_tree.specs.declared.position.Pos.{Pos}
use Rattle.luau_tree.specs.Position.{column_of}
use Rattle.luau_tree.proofs.Places.{column_of-le}
use Rattle.luau_tree.proofs.position.place_from.Goals as goal

-- no column goes past the length of the text
pub after-pos-requires-clause-column : goal.after-pos-requires-clause-column
after-pos-requires-clause-column c =
    let here : c.loop-i.pos.column ≡ column_of c.args.text.now c.loop-i.i = ap (λ (p : Pos). p.column) c.loop-i.invariant in
    let small : column_of c.args.text.now c.loop-i.i ≤ c.loop-i.i + 1 = column_of-le c.args.text.now c.loop-i.i in
    omega arith
