-- Items that stand one behind the other: what is read is what the grammar says, and all of it.
use Rattle.std.proofs.Common.{◌≡◌, ℕ, ◌≤◌, ◌<◌, Bool, true, false, List, [], ◌∷◌, ◌++◌, length, append_assoc, append-nil, refl, sym, ◌∙◌, ap, subst}
use Rattle.luau_grammar.specs.Places.{Place}
use Rattle.luau_grammar.specs.Reading.{Setting, Parser}
use Rattle.luau_grammar.proofs.Agreement.{Sound, Complete}
use Rattle.luau_grammar.proofs.Primitives.{Gives, reads_ok, reads_then, gives_ok, gives_to, gives_same, gives_then}
use Rattle.luau_grammar.proofs.SoundLists.{Adds, repeat_sound}
use Rattle.luau_grammar.proofs.CompleteLists.{Loops, loop_stop, loop_step, loop_done}
use Rattle.decl_grammar.specs.ReadFiles.{one_more, gathered}

-- Many items are none where the test fails, and one before many where it holds.
pub record Repeats {A : Type 0} (goes : Place → Bool) (Is : Place → Place → A → Type 0) (Many : Place → Place → List A → Type 0) : Type 0 where
  pub stop : (p : Place) → goes p ≡ false → Many p p []
  pub more : (p a q : Place) (x : A) (xs : List A) → goes p ≡ true → Is p a x → Many a q xs → Many p q (x ∷ xs)

-- What many items are, by their first; each takes a token.
pub record Unrolls {A : Type 0} (low : ℕ) (goes : Place → Bool) (Is : Place → Place → A → Type 0) (Many : Place → Place → List A → Type 0) : Type 0 where
  pub none : (p q : Place) → Many p q [] → (goes p ≡ false) × (q ≡ p)
  pub some : (p q : Place) (x : A) (xs : List A) → low ≤ p.level → Many p q (x ∷ xs) → (a : Place) × (goes p ≡ true) × Is p a x × Many a q xs × (length a.ahead < length p.ahead)

module _ {A : Type 0} (set : Setting) (goes : Place → Bool) (Is : Place → Place → A → Type 0) (Many : Place → Place → List A → Type 0) (item : Parser A) where
  OneMore : List A → Place → Place → List A → Type 0
  OneMore found p q all = (x : A) × (all ≡ found ++ x ∷ []) × Is p q x

  one_sound : Sound Is item → (found : List A) → Sound (OneMore found) (one_more item found)
  unfolding OneMore
  one_sound sound found p = reads_then (sound p) (λ a x i. reads_ok _ (x, refl, i))

  adds_stop : Repeats goes Is Many → (found : List A) (p : Place) → goes p ≡ false → Adds Many found p p found
  adds_stop r found p h = ([], sym (append-nil found), r.stop p h)

  adds_more : Repeats goes Is Many → (found one all : List A) (p a q : Place) → goes p ≡ true → OneMore found p a one → Adds Many one a q all → Adds Many found p q all
  unfolding OneMore
  adds_more r found one all p a q h n m = (n.0 ∷ m.0, m.1 ∙ (ap (λ z. z ++ m.0) n.1 ∙ append_assoc found (n.0 ∷ []) m.0), r.more p a q n.0 m.0 h n.2 m.2)

  pub gathered_sound : Repeats goes Is Many → Sound Is item → Sound Many (gathered set goes item)
  unfolding gathered
  gathered_sound r sound p q all e =
      let found = repeat_sound set (λ _ p. goes p) (one_more item) OneMore (Adds Many) (adds_stop r) (adds_more r) (one_sound sound) [] p q all e in
      subst (λ z. Many p q z) (sym found.1) found.2

  many_loop : (low : ℕ) → Unrolls low goes Is Many → Complete low Is item → (xs found : List A) (p q : Place) → low ≤ p.level → Many p q xs
      → Loops low set (λ _ p. goes p) (one_more item) found p q (found ++ xs)
  many_loop low u complete [] found p q l m turns enough =
      let n = u.none p q m in
      gives_to n.1 (gives_same (sym (append-nil found)) (loop_stop low set (λ _ p. goes p) (one_more item) found p n.0 l turns enough))
  many_loop low u complete (x ∷ xs) found p q l m turns enough =
      let n = u.some p q x xs l m in
      let g : Gives low p (one_more item found p) n.0 (found ++ x ∷ []) = gives_then _ (complete p n.0 x l n.2) (λ k. gives_ok k) in
      gives_same (append_assoc found (x ∷ []) xs)
      (loop_step low set (λ _ p. goes p) (one_more item) found (found ++ x ∷ []) ((found ++ x ∷ []) ++ xs) p n.0 q n.1 g n.4
      (many_loop low u complete xs (found ++ x ∷ []) n.0 q g.1.level n.3) turns enough)

  pub gathered_complete : (low : ℕ) → Unrolls low goes Is Many → Complete low Is item → Complete low Many (gathered set goes item)
  unfolding gathered
  gathered_complete low u complete p q xs l m = loop_done low set (λ _ p. goes p) (one_more item) [] xs p q (many_loop low u complete xs [] p q l m)
