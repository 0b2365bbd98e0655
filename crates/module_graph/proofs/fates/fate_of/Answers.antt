use Rattle.std.proofs.Common.{◌≡◌, ◌<◌, ◌≤◌, ◌+◌, ℕ, List, true, false, length, get_or, ap, sym, subst, refl, ◌∙◌, arith, inl, inr}
use Rattle.std.specs.Prelude.{Option, Some, None, Contains, slice_get, map}
use Rattle.std.specs.List.{filter_map}
use Rattle.std.proofs.lemmas.Option.{slice_get-get_or, slice_get_within}
use Rattle.luau_tree.specs.declared.position.Span.{Span}
use Rattle.module_graph.specs.declared.node.Call.{Call}
use Rattle.module_graph.specs.declared.node.Node.{Node}
use Rattle.module_graph.specs.declared.standing.Standing.{Standing}
use Rattle.module_graph.specs.declared.standing.Standing.TheVariants.{Refused, Level}
use Rattle.module_graph.specs.Requires.{calls_at, refused_at}
use Rattle.module_graph.specs.Fates.{IsRefused, IsSkipped, IsFirst}
use Rattle.module_graph.specs.Standing.{group_of, IsLeastOf, Stops, AreLevelled}
use Rattle.module_graph.proofs.Lists.{calls_at-index}
use Rattle.module_graph.proofs.Standings.{refused_at-get}
use Rattle.module_graph.proofs.Fating.{least_missing, none_missing, least_returning, cyclic_returning, free_if, first_stopping, skipped_stopping, unskipped, needs-all, has_level}
use Rattle.module_graph.proofs.fates.fate_of.Goals as goal

pub returns-then-node : goal.returns-then-node
returns-then-node c =
    let here : slice_get c.args.nodes.now c.args.file ≡ Some c.index-nodes-file.result = slice_get-get_or c.args.nodes.now c.args.file c.index-nodes-file.result c.requires.file ∙ ap Some (sym c.index-nodes-file.is) in
    refused_at-get c.args.nodes.now c.args.file c.index-nodes-file.result here ∙ c.if-node.true

pub least_at-requires : goal.least_at-requires
least_at-requires c = λ to call has means.
    let calls : c.as_slice-calls.result.now ≡ calls_at c.args.nodes.now c.args.file = c.as_slice-calls.ensures ∙ sym (calls_at-index c.args.nodes.now c.args.file c.index-nodes-file.result c.index-nodes-file.is c.requires.file) in
    let there : to < length c.args.nodes.now = c.requires.graph c.args.file to call (subst (λ (l : List Call). Contains l call) calls has) means in
    let size : length c.deref.result.now ≡ length c.args.nodes.now = ap length c.deref.ensures.value ∙ c.requires.components.numbered in
    omega arith

pub least_at-requires-2 : goal.least_at-requires-2
least_at-requires-2 c = λ to call has means.
    let calls : c.as_slice-calls.result.now ≡ calls_at c.args.nodes.now c.args.file = c.as_slice-calls.ensures ∙ sym (calls_at-index c.args.nodes.now c.args.file c.index-nodes-file.result c.index-nodes-file.is c.requires.file) in
    let there : to < length c.args.nodes.now = c.requires.graph c.args.file to call (subst (λ (l : List Call). Contains l call) calls has) means in
    let size : length c.deref-2.result.now ≡ length c.args.nodes.now = ap length c.deref-2.ensures.value ∙ c.requires.components.numbered in
    omega arith

pub first_stop-requires : goal.first_stop-requires
first_stop-requires c = λ to call has means.
    let calls : c.as_slice-calls.result.now ≡ calls_at c.args.nodes.now c.args.file = c.as_slice-calls.ensures ∙ sym (calls_at-index c.args.nodes.now c.args.file c.index-nodes-file.result c.index-nodes-file.is c.requires.file) in
    let there : to < length c.args.nodes.now = c.requires.graph c.args.file to call (subst (λ (l : List Call). Contains l call) calls has) means in
    let size = c.requires.size in
    omega arith

pub returns-in-Some : goal.returns-in-Some
returns-in-Some c =
    let calls : c.as_slice-calls.result.now ≡ calls_at c.args.nodes.now c.args.file = c.as_slice-calls.ensures ∙ sym (calls_at-index c.args.nodes.now c.args.file c.index-nodes-file.result c.index-nodes-file.is c.requires.file) in
    let here : slice_get c.args.nodes.now c.args.file ≡ Some c.index-nodes-file.result = slice_get-get_or c.args.nodes.now c.args.file c.index-nodes-file.result c.requires.file ∙ ap Some (sym c.index-nodes-file.is) in
    let fresh : refused_at c.args.nodes.now c.args.file ≡ false = refused_at-get c.args.nodes.now c.args.file c.index-nodes-file.result here ∙ c.if-node.false in
    let missing : IsLeastOf (λ to. group_of c.args.found.now.numbers.items to ≡ None) (calls_at c.args.nodes.now c.args.file) (Some c.in-Some.at) =
    subst (λ (l : List ℕ). IsLeastOf (λ to. group_of l to ≡ None) (calls_at c.args.nodes.now c.args.file) (Some c.in-Some.at)) c.deref.ensures.value
    (subst (λ (l : List Call). IsLeastOf (λ to. group_of c.deref.result.now to ≡ None) l (Some c.in-Some.at)) calls c.in-Some.ensures) in
    (fresh, least_missing c.args.nodes.now c.requires.graph c.args.found.now.numbers.items c.args.found.now.order.items c.requires.components c.args.file c.in-Some.at missing)

pub returns-in-Some-least_at : goal.returns-in-Some-least_at
returns-in-Some-least_at c =
    let calls : c.as_slice-calls.result.now ≡ calls_at c.args.nodes.now c.args.file = c.as_slice-calls.ensures ∙ sym (calls_at-index c.args.nodes.now c.args.file c.index-nodes-file.result c.index-nodes-file.is c.requires.file) in
    let here : slice_get c.args.nodes.now c.args.file ≡ Some c.index-nodes-file.result = slice_get-get_or c.args.nodes.now c.args.file c.index-nodes-file.result c.requires.file ∙ ap Some (sym c.index-nodes-file.is) in
    let fresh : refused_at c.args.nodes.now c.args.file ≡ false = refused_at-get c.args.nodes.now c.args.file c.index-nodes-file.result here ∙ c.if-node.false in
    let numbered = c.requires.components.numbered in
    let inside = c.requires.file in
    let number : slice_get c.args.found.now.numbers.items c.args.file ≡ Some c.index-own.result.now = slice_get-get_or c.args.found.now.numbers.items c.args.file c.index-own.result.now (omega arith) ∙ ap Some (sym c.index-own.ensures) in
    let missing : IsLeastOf (λ to. group_of c.args.found.now.numbers.items to ≡ None) (calls_at c.args.nodes.now c.args.file) None =
    subst (λ (l : List ℕ). IsLeastOf (λ to. group_of l to ≡ None) (calls_at c.args.nodes.now c.args.file) None) c.deref.ensures.value
    (subst (λ (l : List Call). IsLeastOf (λ to. group_of c.deref.result.now to ≡ None) l None) calls c.in_default.ensures) in
    let returning : IsLeastOf (λ to. group_of c.args.found.now.numbers.items to ≡ (Some c.index-own.result.now)) (calls_at c.args.nodes.now c.args.file) (Some c.in-Some-least_at.at) =
    subst (λ (l : List ℕ). IsLeastOf (λ to. group_of l to ≡ (Some c.index-own.result.now)) (calls_at c.args.nodes.now c.args.file) (Some c.in-Some-least_at.at)) c.deref-2.ensures.value
    (subst (λ (l : List Call). IsLeastOf (λ to. group_of c.deref-2.result.now to ≡ (Some c.index-own.result.now)) l (Some c.in-Some-least_at.at)) calls c.in-Some-least_at.ensures) in
    (fresh, (none_missing c.args.nodes.now c.requires.graph c.args.found.now.numbers.items c.args.found.now.order.items c.requires.components c.args.file missing, cyclic_returning c.args.nodes.now c.requires.graph c.args.found.now.numbers.items c.args.found.now.order.items c.requires.components c.args.file c.index-own.result.now number c.in-Some-least_at.at returning, least_returning c.args.nodes.now c.requires.graph c.args.found.now.numbers.items c.args.found.now.order.items c.requires.components c.args.file c.index-own.result.now number c.in-Some-least_at.at returning))

pub returns-in-Some-first_stop : goal.returns-in-Some-first_stop
returns-in-Some-first_stop c =
    let calls : c.as_slice-calls.result.now ≡ calls_at c.args.nodes.now c.args.file = c.as_slice-calls.ensures ∙ sym (calls_at-index c.args.nodes.now c.args.file c.index-nodes-file.result c.index-nodes-file.is c.requires.file) in
    let here : slice_get c.args.nodes.now c.args.file ≡ Some c.index-nodes-file.result = slice_get-get_or c.args.nodes.now c.args.file c.index-nodes-file.result c.requires.file ∙ ap Some (sym c.index-nodes-file.is) in
    let fresh : refused_at c.args.nodes.now c.args.file ≡ false = refused_at-get c.args.nodes.now c.args.file c.index-nodes-file.result here ∙ c.if-node.false in
    let numbered = c.requires.components.numbered in
    let inside = c.requires.file in
    let number : slice_get c.args.found.now.numbers.items c.args.file ≡ Some c.index-own.result.now = slice_get-get_or c.args.found.now.numbers.items c.args.file c.index-own.result.now (omega arith) ∙ ap Some (sym c.index-own.ensures) in
    let missing : IsLeastOf (λ to. group_of c.args.found.now.numbers.items to ≡ None) (calls_at c.args.nodes.now c.args.file) None =
    subst (λ (l : List ℕ). IsLeastOf (λ to. group_of l to ≡ None) (calls_at c.args.nodes.now c.args.file) None) c.deref.ensures.value
    (subst (λ (l : List Call). IsLeastOf (λ to. group_of c.deref.result.now to ≡ None) l None) calls c.in_default.ensures) in
    let returning : IsLeastOf (λ to. group_of c.args.found.now.numbers.items to ≡ (Some c.index-own.result.now)) (calls_at c.args.nodes.now c.args.file) None =
    subst (λ (l : List ℕ). IsLeastOf (λ to. group_of l to ≡ (Some c.index-own.result.now)) (calls_at c.args.nodes.now c.args.file) None) c.deref-2.ensures.value
    (subst (λ (l : List Call). IsLeastOf (λ to. group_of c.deref-2.result.now to ≡ (Some c.index-own.result.now)) l None) calls c.in_default-least_at.ensures) in
    let free : IsRefused c.args.nodes.now c.args.file → ⊥ = free_if c.args.nodes.now c.requires.graph c.args.found.now.numbers.items c.args.found.now.order.items c.requires.components c.args.file c.index-own.result.now number fresh missing returning in
    let stop : Call = record { at = c.in-Some-first_stop.at; to = Some c.in-Some-first_stop.needs } in
    let first : IsFirst (Stops c.args.standings.now) (calls_at c.args.nodes.now c.args.file) stop = subst (λ (l : List Call). IsFirst (Stops c.args.standings.now) l stop) calls c.in-Some-first_stop.ensures in
    (skipped_stopping c.args.nodes.now c.requires.graph c.args.found.now.numbers.items c.args.found.now.order.items c.requires.components c.args.file c.args.standings.now c.requires.standings c.requires.size free stop first, first_stopping c.args.nodes.now c.requires.graph c.args.found.now.numbers.items c.args.found.now.order.items c.requires.components c.args.file c.args.standings.now c.requires.standings c.requires.size stop first)

pub unreachable-requires : goal.unreachable-requires
unreachable-requires c =
    let calls : c.as_slice-calls.result.now ≡ calls_at c.args.nodes.now c.args.file = c.as_slice-calls.ensures ∙ sym (calls_at-index c.args.nodes.now c.args.file c.index-nodes-file.result c.index-nodes-file.is c.requires.file) in
    let here : slice_get c.args.nodes.now c.args.file ≡ Some c.index-nodes-file.result = slice_get-get_or c.args.nodes.now c.args.file c.index-nodes-file.result c.requires.file ∙ ap Some (sym c.index-nodes-file.is) in
    let fresh : refused_at c.args.nodes.now c.args.file ≡ false = refused_at-get c.args.nodes.now c.args.file c.index-nodes-file.result here ∙ c.if-node.false in
    let numbered = c.requires.components.numbered in
    let inside = c.requires.file in
    let number : slice_get c.args.found.now.numbers.items c.args.file ≡ Some c.index-own.result.now = slice_get-get_or c.args.found.now.numbers.items c.args.file c.index-own.result.now (omega arith) ∙ ap Some (sym c.index-own.ensures) in
    let missing : IsLeastOf (λ to. group_of c.args.found.now.numbers.items to ≡ None) (calls_at c.args.nodes.now c.args.file) None =
    subst (λ (l : List ℕ). IsLeastOf (λ to. group_of l to ≡ None) (calls_at c.args.nodes.now c.args.file) None) c.deref.ensures.value
    (subst (λ (l : List Call). IsLeastOf (λ to. group_of c.deref.result.now to ≡ None) l None) calls c.in_default.ensures) in
    let returning : IsLeastOf (λ to. group_of c.args.found.now.numbers.items to ≡ (Some c.index-own.result.now)) (calls_at c.args.nodes.now c.args.file) None =
    subst (λ (l : List ℕ). IsLeastOf (λ to. group_of l to ≡ (Some c.index-own.result.now)) (calls_at c.args.nodes.now c.args.file) None) c.deref-2.ensures.value
    (subst (λ (l : List Call). IsLeastOf (λ to. group_of c.deref-2.result.now to ≡ (Some c.index-own.result.now)) l None) calls c.in_default-least_at.ensures) in
    let free : IsRefused c.args.nodes.now c.args.file → ⊥ = free_if c.args.nodes.now c.requires.graph c.args.found.now.numbers.items c.args.found.now.order.items c.requires.components c.args.file c.index-own.result.now number fresh missing returning in
    let levelled : AreLevelled c.args.standings.now (calls_at c.args.nodes.now c.args.file) = subst (λ (l : List Call). AreLevelled c.args.standings.now l) calls c.in_default-first_stop.ensures in
    let unskipped' : IsSkipped c.args.nodes.now c.args.file → ⊥ = unskipped c.args.nodes.now c.requires.graph c.args.found.now.numbers.items c.args.found.now.order.items c.requires.components c.args.file c.args.standings.now c.requires.standings c.requires.size levelled in
    let size = c.requires.size in
    has_level c.args.nodes.now c.args.file c.index-own.result.now (get_or c.args.standings.now c.args.file Refused)
    (c.requires.standings c.args.file c.index-own.result.now (get_or c.args.standings.now c.args.file Refused) number (slice_get-get_or c.args.standings.now c.args.file Refused (omega arith)))
    free unskipped' c.in_default-standings.not-Level

pub returns : goal.returns
returns c =
    let calls : c.as_slice-calls.result.now ≡ calls_at c.args.nodes.now c.args.file = c.as_slice-calls.ensures ∙ sym (calls_at-index c.args.nodes.now c.args.file c.index-nodes-file.result c.index-nodes-file.is c.requires.file) in
    let here : slice_get c.args.nodes.now c.args.file ≡ Some c.index-nodes-file.result = slice_get-get_or c.args.nodes.now c.args.file c.index-nodes-file.result c.requires.file ∙ ap Some (sym c.index-nodes-file.is) in
    let fresh : refused_at c.args.nodes.now c.args.file ≡ false = refused_at-get c.args.nodes.now c.args.file c.index-nodes-file.result here ∙ c.if-node.false in
    let numbered = c.requires.components.numbered in
    let inside = c.requires.file in
    let number : slice_get c.args.found.now.numbers.items c.args.file ≡ Some c.index-own.result.now = slice_get-get_or c.args.found.now.numbers.items c.args.file c.index-own.result.now (omega arith) ∙ ap Some (sym c.index-own.ensures) in
    let missing : IsLeastOf (λ to. group_of c.args.found.now.numbers.items to ≡ None) (calls_at c.args.nodes.now c.args.file) None =
    subst (λ (l : List ℕ). IsLeastOf (λ to. group_of l to ≡ None) (calls_at c.args.nodes.now c.args.file) None) c.deref.ensures.value
    (subst (λ (l : List Call). IsLeastOf (λ to. group_of c.deref.result.now to ≡ None) l None) calls c.in_default.ensures) in
    let returning : IsLeastOf (λ to. group_of c.args.found.now.numbers.items to ≡ (Some c.index-own.result.now)) (calls_at c.args.nodes.now c.args.file) None =
    subst (λ (l : List ℕ). IsLeastOf (λ to. group_of l to ≡ (Some c.index-own.result.now)) (calls_at c.args.nodes.now c.args.file) None) c.deref-2.ensures.value
    (subst (λ (l : List Call). IsLeastOf (λ to. group_of c.deref-2.result.now to ≡ (Some c.index-own.result.now)) l None) calls c.in_default-least_at.ensures) in
    let free : IsRefused c.args.nodes.now c.args.file → ⊥ = free_if c.args.nodes.now c.requires.graph c.args.found.now.numbers.items c.args.found.now.order.items c.requires.components c.args.file c.index-own.result.now number fresh missing returning in
    let levelled : AreLevelled c.args.standings.now (calls_at c.args.nodes.now c.args.file) = subst (λ (l : List Call). AreLevelled c.args.standings.now l) calls c.in_default-first_stop.ensures in
    let unskipped' : IsSkipped c.args.nodes.now c.args.file → ⊥ = unskipped c.args.nodes.now c.requires.graph c.args.found.now.numbers.items c.args.found.now.order.items c.requires.components c.args.file c.args.standings.now c.requires.standings c.requires.size levelled in
    let size = c.requires.size in
    let stands : slice_get c.args.standings.now c.args.file ≡ Some (Level c.in-Level.level) = slice_get-get_or c.args.standings.now c.args.file Refused (omega arith) ∙ ap Some c.in-Level.is in
    let standing = c.requires.standings c.args.file c.index-own.result.now (Level c.in-Level.level) number stands in
    let needs : filter_map (λ call. call.to) (calls_at c.args.nodes.now c.args.file) ≡ c.of-needs.result = ap (λ (l : List Call). filter_map (λ call. call.to) l) (sym calls) ∙ (sym c.in_ok-needs_of.ensures ∙ sym c.of-needs.ensures) in
    (free, unskipped', standing.2, needs-all (calls_at c.args.nodes.now c.args.file) (λ call has none. none_missing c.args.nodes.now c.requires.graph c.args.found.now.numbers.items c.args.found.now.order.items c.requires.components c.args.file missing (call, has, none)) ∙ ap (λ (l : List ℕ). map Some l) needs)
