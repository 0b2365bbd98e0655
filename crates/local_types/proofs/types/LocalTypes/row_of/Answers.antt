use Rattle.std.proofs.Common.{ℕ, List, ap, ◌∙◌}
use Rattle.std.specs.Prelude.{false, IsTrue}
use Rattle.type_arena.specs.Meaning.{fields_by}
use Rattle.type_arena.specs.Store.{has}
use Rattle.type_arena.specs.declared.node.TypeRef.{TypeRef}
use Rattle.type_normal.specs.Kinds.{row_type}
use Rattle.local_types.specs.Entries.{arenas_of, type_of}
use Rattle.local_types.proofs.GrowFacts.{grows_nothing, grows_less}
use Rattle.local_types.proofs.NamedFacts.{listed_all}
use Rattle.local_types.proofs.types.LocalTypes.row_of.Goals as goal

pub returns-in_err-fields-clause-grows : goal.returns-in_err-fields-clause-grows
returns-in_err-fields-clause-grows c = grows_nothing c.args.self.now c.args.types.now

pub returns-in_err-listed-clause-grows : goal.returns-in_err-listed-clause-grows
returns-in_err-listed-clause-grows c = grows_nothing c.args.self.now c.args.types.now

pub row-requires : goal.row-requires
row-requires c =
    listed_all (λ (at : TypeRef). IsTrue (has (arenas_of c.args.self.now) at)) c.args.types.now c.in_ok-fields.fields.entries c.in_ok-listed.listed c.in_ok-listed.ensures c.in_ok-fields.ensures.among c.requires

pub returns-in_err-at-clause-grows : goal.returns-in_err-at-clause-grows
returns-in_err-at-clause-grows c =
    grows_less c.args.self.now c.row.new.self c.args.types.now _ c.row.ensures.grows
    (λ test within homes. listed_all (λ (at : TypeRef). IsTrue (test at.home)) c.args.types.now c.in_ok-fields.fields.entries c.in_ok-listed.listed c.in_ok-listed.ensures c.in_ok-fields.ensures.among homes)

pub returns-clause-term : goal.returns-clause-term
returns-clause-term c =
    c.in_ok-at.ensures.term
    ∙ ap (λ (fields : List (List ℕ × TypeRef)). row_type false (fields_by (type_of c.args.self.now) fields)) c.in_ok-listed.ensures
    ∙ ap (row_type false) (c.in_ok-fields.ensures.fields (type_of c.args.self.now))

pub returns-clause-made : goal.returns-clause-made
returns-clause-made c =
    λ test within homes. c.in_ok-at.ensures.made test within
    (listed_all (λ (at : TypeRef). IsTrue (test at.home)) c.args.types.now c.in_ok-fields.fields.entries c.in_ok-listed.listed c.in_ok-listed.ensures c.in_ok-fields.ensures.among homes)

pub returns-clause-grows : goal.returns-clause-grows
returns-clause-grows c =
    grows_less c.args.self.now c.row.new.self c.args.types.now _ c.in_ok-at.ensures.grows
    (λ test within homes. listed_all (λ (at : TypeRef). IsTrue (test at.home)) c.args.types.now c.in_ok-fields.fields.entries c.in_ok-listed.listed c.in_ok-listed.ensures c.in_ok-fields.ensures.among homes)
