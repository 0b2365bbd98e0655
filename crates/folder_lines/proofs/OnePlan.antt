-- A folder has one plan.
use Rattle.std.proofs.Common.{◌≡◌, ◌≤◌, ℕ, suc, List, [], ◌∷◌, length, get_or, refl, ap, sym, ◌∙◌, subst, arith, inl, inr}
use Rattle.std.specs.Prelude.{Some, slice_get}
use Rattle.std.proofs.lemmas.Bool.{cases_lt}
use Rattle.std.proofs.lemmas.Option.{slice_get-get_or}
use Rattle.module_graph.specs.declared.needs.Fate.{Fate}
use Rattle.module_graph.specs.declared.needs.ModuleNeeds.{ModuleNeeds}
use Rattle.module_graph.specs.declared.needs.Plan.{Plan}
use Rattle.module_graph.specs.declared.node.Node.{Node}
use Rattle.module_graph.specs.Fates.{IsFate}
use Rattle.module_graph.specs.Levels.{AreLevels, IsPlan}
use Rattle.module_graph.specs.Requires.{nodes_of}

-- lists of one length with the same items are one
pub same_items : {X : Type 0} (xs ys : List X) → length xs ≡ length ys → ((k : ℕ) (x y : X) → slice_get xs k ≡ Some x → slice_get ys k ≡ Some y → x ≡ y) → xs ≡ ys
same_items [] [] e same = refl
same_items [] (y ∷ ys) e same = absurd (omega (arith, e))
same_items (x ∷ xs) [] e same = absurd (omega (arith, e))
same_items (x ∷ xs) (y ∷ ys) e same = ap (λ z. z ∷ xs) (same 0 x y refl refl) ∙ ap (λ zs. y ∷ zs) (same_items xs ys (omega (arith, e)) (λ k. same (suc k)))

-- no list of levels goes on behind another of the same fates
no_more : (fates : List Fate) (levels others : List (List ℕ)) → AreLevels fates levels → AreLevels fates others → length others ≤ length levels
no_more fates levels others is also =
    elim (cases_lt (length levels) (length others)) [
      | inl less ↦ absurd (also.inhabited (length levels) [] less (also.each (length levels) (get_or others (length levels) []) (slice_get-get_or others (length levels) [] less) ∙ is.all (length levels) (omega arith)))
      | inr le ↦ le
    ]

same_levels : (fates : List Fate) (levels others : List (List ℕ)) → AreLevels fates levels → AreLevels fates others → levels ≡ others
same_levels fates levels others is also =
    let more = no_more fates levels others is also in
    let fewer = no_more fates others levels also is in
    same_items levels others (omega (arith, more, fewer)) (λ k x y e f. is.each k x e ∙ sym (also.each k y f))

module _ (unique : (nodes : List Node) (file : ℕ) (fate other : Fate) → IsFate nodes file fate → IsFate nodes file other → fate ≡ other) where
  same_fates : (files : List ModuleNeeds) (plan other : Plan) → IsPlan files plan → IsPlan files other → plan.fates ≡ other.fates
  same_fates files plan other is also =
      same_items plan.fates other.fates (is.fates.all ∙ sym also.fates.all) (λ k x y e f. unique (nodes_of files) k x y (is.fates.each k x e) (also.fates.each k y f))

  pub same_plan : (files : List ModuleNeeds) (plan other : Plan) → IsPlan files plan → IsPlan files other → plan ≡ other
  same_plan files plan other is also =
      let fates = same_fates files plan other is also in
      let levels = same_levels other.fates plan.levels other.levels (subst (λ (fs : List Fate). AreLevels fs plan.levels) fates is.levels) also.levels in
      λ i. record { fates = fates i; levels = levels i }
