use Rattle.std.proofs.Common.{◌≡◌, Bool, sym, ◌∙◌, ap, subst}
use Rattle.std.specs.Prelude.{IfOk, Option, None, not, ◌&&◌, if◌then◌else◌}
use Rattle.type_arena.specs.Term.{free_of}
use Rattle.type_normal.specs.Nodes.{is_nil}
use Rattle.subtype_check.specs.Apart.{first_apart}
use Rattle.subtype_check.specs.declared.samples.Sample.{Sample}
use Rattle.subtype_check.proofs.ApartFacts.{apart_by_nodes}
use Rattle.subtype_check.proofs.samples.apart.Goals as goal

pub returns-then-has_plain_rows : goal.returns-then-has_plain_rows
returns-then-has_plain_rows g c =
    let p = c.has_plain_rows.ensures in
    let q = c.has_plain_rows-2.ensures in
    let n = c.node-one.result.now in
    let m = c.node-other.result.now in
    subst (λ (x : Option Sample). IfOk c.nodes_apart.result (λ sample. sample ≡ x))
    (sym (apart_by_nodes (g.N.Nodes.arenas c.args.nodes.now) (g.met.N.Nodes.sound c.args.nodes.now) c.args.a c.args.b n m c.node-one.ensures c.node-other.ensures
    ∙ ap (λ (b : Bool). if b then first_apart (free_of n) (not (is_nil n.rows)) (free_of m) (not (is_nil m.rows)) else None) ((λ i. sym p i && sym q i) ∙ c.if-has_plain_rows.true)))
    c.nodes_apart.ensures

pub returns-else-has_plain_rows : goal.returns-else-has_plain_rows
returns-else-has_plain_rows g c =
    let p = c.has_plain_rows.ensures in
    let q = c.has_plain_rows-2.ensures in
    let n = c.node-one.result.now in
    let m = c.node-other.result.now in
    sym (apart_by_nodes (g.N.Nodes.arenas c.args.nodes.now) (g.met.N.Nodes.sound c.args.nodes.now) c.args.a c.args.b n m c.node-one.ensures c.node-other.ensures
    ∙ ap (λ (b : Bool). if b then first_apart (free_of n) (not (is_nil n.rows)) (free_of m) (not (is_nil m.rows)) else None) ((λ i. sym p i && sym q i) ∙ c.if-has_plain_rows.false))
