-- Lists of phrases.
use Rattle.std.specs.Prelude.{◌≡◌, true, false, Bool, ◌||◌, ◌⊎◌, List, [], ◌∷◌}
use Rattle.luau_grammar.specs.declared.symbol.Symbol.TheVariants as s
use Rattle.luau_grammar.specs.Places.{Place, Rules, Takes, sees}

-- `,` or `;` comes next
abbrev pub sees_separator : Place → Bool
sees_separator p = sees s.Comma p || sees s.Semicolon p

module _ (rules : Rules) where
  -- `',' | ';'`
  abbrev pub TakesSeparator : Place → Place → Type 0
  TakesSeparator p q = Takes rules s.Comma p q ⊎ Takes rules s.Semicolon p q

  -- `x {',' x}`: the first and the others
  abbrev pub AreSeparated : {A : Type 0} → (Place → Place → A → Type 0) → Place → Place → A → List A → Type 0
  AreSeparated Is p q x [] = Is p q x × (sees s.Comma q ≡ false)
  AreSeparated Is p q x (y ∷ ys) = (a b : Place) × Is p a x × Takes rules s.Comma a b × AreSeparated Is b q y ys

  -- `x {(',' | ';') x} [',' | ';']`, up to a `}`
  abbrev pub AreInBraces : {A : Type 0} → (Place → Place → A → Type 0) → Place → Place → A → List A → Type 0
  AreInBraces Is p q x [] =
      (a : Place) × Is p a x
      × (((sees_separator a ≡ false) × (q ≡ a)) ⊎ (TakesSeparator a q × (sees s.RightBrace q ≡ true)))
  AreInBraces Is p q x (y ∷ ys) =
      (a b : Place) × Is p a x × TakesSeparator a b × (sees s.RightBrace b ≡ false) × AreInBraces Is b q y ys
