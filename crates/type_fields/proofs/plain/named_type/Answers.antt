use Rattle.std.proofs.Common.{◌≡◌, ℕ, List, [], ◌∷◌, refl, sym, ap, ◌∙◌, subst, get_or}
use Rattle.std.specs.Prelude.{All}
use Rattle.std.proofs.lemmas.List.Elements.{Contains-get_or}
use Rattle.type_arena.specs.Arena.{home_of, store_of}
use Rattle.type_arena.specs.Homes.{Given, MayUse, given_literal, homes_in, literal_homes}
use Rattle.type_arena.specs.Meaning.{term_of, term_by}
use Rattle.type_arena.specs.Store.{refs_of}
use Rattle.type_arena.specs.Term.{function_of}
use Rattle.type_arena.specs.declared.node.Node.{Node}
use Rattle.type_normal.specs.Holds.{holds}
use Rattle.type_normal.specs.Kinds.{named_type}
use Rattle.type_normal.proofs.Public.{one_function_holds}
use Rattle.type_fields.proofs.Chain.{interned_alone}
use Rattle.type_fields.proofs.plain.named_type.Goals.{In_ok-at}
use Rattle.type_fields.proofs.plain.named_type.Goals as goal

meaning : (c : In_ok-at) → term_of (store_of c.intern.new.self) c.in_ok-at.at ≡ named_type (function_of c.args.function)
meaning c = c.in_ok-at.ensures.meaning ∙ ap (term_by (term_of (store_of c.args.arena.now))) c.in_ok-node.ensures

pub returns-clause-values : goal.returns-clause-values
returns-clause-values c h v k = one_function_holds h v (named_type (function_of c.args.function)) (function_of c.args.function) refl (sym (ap (holds h v) (meaning c)) ∙ k)

pub returns-clause-clean : goal.returns-clause-clean
returns-clause-clean c =
    let given : Given = record { refs = []; literals = homes_in (c.args.function ∷ []) } in
    let named : literal_homes c.in_ok-node.node.functions ≡ homes_in (c.args.function ∷ []) = ap (λ (n : Node). literal_homes n.functions) c.in_ok-node.ensures in
    (interned_alone c.args.arena.now c.intern.new.self given c.in_ok-node.node c.in_ok-at.at (ap refs_of c.in_ok-node.ensures)
    (subst (λ (xs : List ℕ). All (MayUse (store_of c.args.arena.now) (home_of c.args.arena.now) given) xs) (sym named)
    (λ k d l. given_literal (get_or (homes_in (c.args.function ∷ [])) k d) (Contains-get_or (homes_in (c.args.function ∷ [])) k d l)))
    c.in_ok-at.ensures.node c.in_ok-at.ensures.home c.in_ok-at.ensures.below c.in_ok-at.ensures.own_home c.in_ok-at.ensures.keeps c.in_ok-at.ensures.kept c.in_ok-at.ensures.homes).clean
