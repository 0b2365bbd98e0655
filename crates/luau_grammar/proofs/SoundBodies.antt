-- What the parsers of parameters and function bodies read is what the grammar says.
use Rattle.std.proofs.Common.{◌≡◌, ℕ, zero, suc, true, false, ◌⊎◌, List, [], ◌∷◌, ◌++◌, refl, sym, ◌∙◌, ap, subst, inl, inr, append_assoc, append-nil}
use Rattle.std.specs.Prelude.{Option, Some, None, is_some}
use Rattle.luau_tree.specs.declared.position.Span.{Span}
use Rattle.luau_tree.specs.Tree.{Body, Bind, Binds, MaybeType, TypeSyntax, Varargs}
use Rattle.luau_tree.specs.Tree as tree
use Rattle.luau_tree.specs.View.{binds}
use Rattle.luau_grammar.specs.declared.symbol.Symbol.TheVariants as s
use Rattle.luau_grammar.specs.Places.{Place, Takes, TakesName, sees, over}
use Rattle.luau_grammar.specs.Phrases.{Phrases}
use Rattle.luau_grammar.specs.Expressions.{sees_pack, HasSelf, AreAttributes, IsAnnotation, IsBind, IsVarType, IsVarparam, AreParametersFrom, AreParameters, IsMaybeResult, IsBody}
use Rattle.luau_grammar.specs.Reading.{Setting, Readers}
use Rattle.luau_grammar.specs.ReadTypes as readtypes
use Rattle.luau_grammar.specs.ReadExpressions.{Parameters, with_self, goes_parameters, no_parameters, attribute, attributes, annotation, bind, var_type, var_annotation, varparam, rest_parameter, named_parameter, parameter, another_parameter, parameters_from, some_parameters, parameters, maybe_result, body}
use Rattle.luau_grammar.proofs.Agreement.{Sound, SoundPhrases}
use Rattle.luau_grammar.proofs.Primitives.{reads_ok, reads_weaker, reads_then, reads_if, expect_sound, name_sound}
use Rattle.luau_grammar.proofs.SoundLists.{repeat_sound}
use Rattle.luau_grammar.proofs.SoundTypes.{generics_sound, result_sound}

-- the parameters of a method, `self` before those that are written
pub has_self : (method : Option Span) (own : List Bind) → HasSelf method (is_some method) own (binds (with_self method own))
has_self None own = (refl, refl)
has_self (Some name) own = (refl, refl)

-- `'@' NAME`
abbrev IsAttribute : Setting → Place → Place → Unit {0} → Type 0
IsAttribute set p q y = (a : Place) × (name : List ℕ) × Takes set.rules s.AtSign p a × TakesName set.rules a q name

module _ (set : Setting) (inner : Phrases) where
  -- parameters that follow one, up to the last, and the `...` behind them
  abbrev pub AreFollowing : Place → Place → List Bind → Varargs → Type 0
  AreFollowing p q [] tree.no_varargs = (sees s.Comma p ≡ false) × (q ≡ p)
  AreFollowing p q [] (tree.varargs t) =
      (b : Place) × Takes set.rules s.Comma p b × (sees s.Dots b ≡ true) × IsVarparam set.rules inner b q t
  AreFollowing p q (x ∷ xs) v =
      (b c : Place) × Takes set.rules s.Comma p b × (sees s.Dots b ≡ false) × IsBind set.rules inner b c x × AreFollowing c q xs v

  follow : (p a q : Place) (x : Bind) (xs : List Bind) (v : Varargs)
      → IsBind set.rules inner p a x → AreFollowing a q xs v → AreParametersFrom set.rules inner p q x xs v
  follow p a q x [] tree.no_varargs i f = subst (λ z. AreParametersFrom set.rules inner p z x [] tree.no_varargs) (sym f.1) (i, f.0)
  follow p a q x [] (tree.varargs t) i f = (a, f.0, i, f.1, f.2, f.3)
  follow p a q x (y ∷ ys) v i f = (a, f.0, i, f.2, f.3, follow f.0 f.1 q y ys v f.4 f.5)

  pub unfollow : (p q : Place) (x : Bind) (xs : List Bind) (v : Varargs) → AreParametersFrom set.rules inner p q x xs v
      → (a : Place) × IsBind set.rules inner p a x × AreFollowing a q xs v
  unfollow p q x [] tree.no_varargs h = (q, h.0, (h.1, refl))
  unfollow p q x [] (tree.varargs t) h = (h.0, h.2, (h.1, h.3, h.4, h.5))
  unfollow p q x (y ∷ ys) v h =
      let f = unfollow h.1 q y ys v h.5 in
      (h.0, h.2, (h.1, f.0, h.3, h.4, f.1, f.2))

  -- one parameter, or the `...`, behind some parameters
  abbrev IsParameter : List Bind → Place → Place → Parameters → Type 0
  IsParameter found p q y =
      ((t : MaybeType) × (sees s.Dots p ≡ true) × IsVarparam set.rules inner p q t
      × (y ≡ record { found = found; rest = tree.varargs t }))
      ⊎ ((x : Bind) × (sees s.Dots p ≡ false) × IsBind set.rules inner p q x
      × (y ≡ record { found = found ++ x ∷ []; rest = tree.no_varargs }))

  abbrev IsAnother : Parameters → Place → Place → Parameters → Type 0
  IsAnother given p q y = (b : Place) × Takes set.rules s.Comma p b × IsParameter given.found b q y

  -- what the loop reads behind some parameters
  abbrev Continued : Varargs → List Bind → Place → Parameters → Place → Type 0
  Continued tree.no_varargs found p all r =
      (more : List Bind) × (all.found ≡ found ++ more) × AreFollowing p r more all.rest
  Continued (tree.varargs t) found p all r = (all ≡ record { found = found; rest = tree.varargs t }) × (r ≡ p)

  abbrev Follows : Parameters → Place → Place → Parameters → Type 0
  Follows given p q all = Continued given.rest given.found p all q

  stop_at : (rest : Varargs) (found : List Bind) (p : Place) → goes_parameters (record { found = found; rest = rest }) p ≡ false
      → Continued rest found p (record { found = found; rest = rest }) p
  stop_at tree.no_varargs found p h = ([], sym (append-nil found), (h, refl))
  stop_at (tree.varargs t) found p h = (refl, refl)

  last_parameter : (found : List Bind) (p b q r : Place) (t : MaybeType) (all : Parameters) → Takes set.rules s.Comma p b
      → sees s.Dots b ≡ true → IsVarparam set.rules inner b q t → Continued (tree.varargs t) found q all r
      → Continued tree.no_varargs found p all r
  last_parameter found p b q r t all c d v k = (
    [],
    ap (λ (z : Parameters). z.found) k.0 ∙ sym (append-nil found),
    subst (λ z. AreFollowing p r [] z) (sym (ap (λ (z : Parameters). z.rest) k.0))
        (b, c, d, subst (λ z. IsVarparam set.rules inner b z t) (sym k.1) v),
  )

  next_parameter : (found : List Bind) (p b q r : Place) (x : Bind) (all : Parameters) → Takes set.rules s.Comma p b
      → sees s.Dots b ≡ false → IsBind set.rules inner b q x → Continued tree.no_varargs (found ++ x ∷ []) q all r
      → Continued tree.no_varargs found p all r
  next_parameter found p b q r x all c d i k =
      (x ∷ k.0, k.1 ∙ append_assoc found (x ∷ []) k.0, (b, q, c, d, i, k.2))

  turn_by : (found : List Bind) (p b q r : Place) (y all : Parameters) → Takes set.rules s.Comma p b
      → IsParameter found b q y → Continued y.rest y.found q all r → Continued tree.no_varargs found p all r
  turn_by found p b q r y all c (inl i) k =
      last_parameter found p b q r i.0 all c i.1 i.2 (subst (λ (z : Parameters). Continued z.rest z.found q all r) i.3 k)
  turn_by found p b q r y all c (inr i) k =
      next_parameter found p b q r i.0 all c i.1 i.2 (subst (λ (z : Parameters). Continued z.rest z.found q all r) i.3 k)

  go_on : (rest : Varargs) (found : List Bind) (p q r : Place) (y all : Parameters)
      → goes_parameters (record { found = found; rest = rest }) p ≡ true → (b : Place) → Takes set.rules s.Comma p b
      → IsParameter found b q y → Follows y q r all → Continued rest found p all r
  go_on tree.no_varargs found p q r y all h b c i k = turn_by found p b q r y all c i k
  go_on (tree.varargs t) found p q r y all h b c i k = absurd (cc)

  first_by : (p q r : Place) (y all : Parameters) → sees s.RightParen p ≡ false
      → IsParameter [] p q y → Continued y.rest y.found q all r → AreParameters set.rules inner p r all.found all.rest
  first_by p q r y all h (inl i) k =
      let e = subst (λ (z : Parameters). Continued z.rest z.found q all r) i.3 k in
      subst (λ (z : Parameters). AreParameters set.rules inner p r z.found z.rest) (sym e.0)
      (i.1, subst (λ z. IsVarparam set.rules inner p z i.0) (sym e.1) i.2)
  first_by p q r y all h (inr i) k =
      let e = subst (λ (z : Parameters). Continued z.rest z.found q all r) i.3 k in
      subst (λ l. AreParameters set.rules inner p r l all.rest) (sym e.1)
      (h, i.1, follow p q r i.0 e.0 all.rest i.2 e.2)

module _ (set : Setting) (inner : Phrases) (readers : Readers) (sound : SoundPhrases set inner readers) where
  attribute_sound : (x : Unit {0}) → Sound (IsAttribute set) (attribute set readers x)
  unfolding attribute
  attribute_sound x p =
      reads_then
      (reads_then {Is = λ q n. (a : Place) × Takes set.rules s.AtSign p a × TakesName set.rules a q n} (expect_sound set s.AtSign p)
      (λ a t h. reads_weaker (name_sound set a) (λ b n i. (a, h, i))))
      (λ b n h. reads_ok _ (h.0, n, h.1, h.2))

  pub attributes_sound : Sound (λ p q y. (n : ℕ) × AreAttributes set.rules inner n p q) (attributes set readers)
  unfolding attributes
  attributes_sound =
      repeat_sound set (λ x p. sees s.AtSign p) (attribute set readers) (λ x. IsAttribute set)
      (λ x p q y. (n : ℕ) × AreAttributes set.rules inner n p q)
      (λ x p h. (zero, (h, refl)))
      (λ x y z p a q h i k. (suc k.0, (i.0, a, i.1, i.2, i.3, k.1)))
      attribute_sound tt

  pub annotation_sound : Sound (IsAnnotation set.rules inner) (annotation set readers)
  unfolding annotation
  annotation_sound p =
      reads_if (sees s.Colon p)
      (λ h. reads_then (expect_sound set s.Colon p) (λ a t i. reads_then (sound.typ None a) (λ b u k. reads_ok _ (a, i, k))))
      (λ h. reads_ok _ (h, refl))

  pub bind_sound : Sound (IsBind set.rules inner) (bind set readers)
  unfolding bind
  bind_sound p =
      reads_then (name_sound set p) (λ a n h. reads_then (annotation_sound a) (λ b t i. reads_ok _ (a, h, refl, i)))

  generic_pack_sound : Sound (λ p q t. (a : Place) × (name : List ℕ) × TakesName set.rules p a name × Takes set.rules s.Dots a q
      × (t ≡ tree.the_type (over p q) (tree.GenericPack name))) (readtypes.generic_pack set readers)
  unfolding readtypes.generic_pack
  generic_pack_sound p =
      reads_then (name_sound set p) (λ a n h. reads_then (expect_sound set s.Dots a) (λ b t i. reads_ok _ (a, n, h, i, refl)))

  var_type_sound : Sound (IsVarType set.rules inner) (var_type set readers)
  unfolding var_type
  var_type_sound p =
      reads_if (sees_pack p)
      (λ h. reads_weaker (generic_pack_sound p) (λ q t i. inl (h, i.0, i.1, i.2, i.3, i.4)))
      (λ h. reads_weaker (sound.typ None p) (λ q t i. inr (h, i)))

  pub varparam_sound : Sound (IsVarparam set.rules inner) (varparam set readers)
  unfolding varparam var_annotation
  varparam_sound p =
      reads_then (expect_sound set s.Dots p) (λ a t i.
      reads_if (sees s.Colon a)
      (λ h. reads_then (expect_sound set s.Colon a) (λ b u k. reads_then (var_type_sound b) (λ c v l. reads_ok _ (a, b, i, k, l))))
      (λ h. reads_ok _ (i, h)))

  parameter_sound : (given : Parameters) → Sound (IsParameter set inner given.found) (parameter set readers given)
  unfolding parameter rest_parameter named_parameter
  parameter_sound given p =
      reads_if (sees s.Dots p)
      (λ h. reads_then (varparam_sound p) (λ a t i. reads_ok _ (inl (t, h, i, refl))))
      (λ h. reads_then (bind_sound p) (λ a x i. reads_ok _ (inr (x, h, i, refl))))

  another_sound : (given : Parameters) → Sound (IsAnother set inner given) (another_parameter set readers given)
  unfolding another_parameter
  another_sound given p =
      reads_then (expect_sound set s.Comma p) (λ b t c. reads_weaker (parameter_sound given b) (λ q y i. (b, c, i)))

  parameters_from_sound : (given : Parameters) → Sound (Follows set inner given) (parameters_from set readers given)
  unfolding parameters_from
  parameters_from_sound given =
      repeat_sound set goes_parameters (another_parameter set readers) (IsAnother set inner) (Follows set inner)
      (λ x p h. stop_at set inner x.rest x.found p h)
      (λ x y z p a q h i k. go_on set inner x.rest x.found p a q y z h i.0 i.1 i.2 k)
      another_sound given

  pub parameters_sound : Sound (λ p q all. AreParameters set.rules inner p q all.found all.rest) (parameters set readers)
  unfolding parameters some_parameters
  parameters_sound p =
      reads_if (sees s.RightParen p)
      (λ h. reads_ok _ (h, refl))
      (λ h. reads_then (parameter_sound no_parameters p) (λ q y i.
      reads_weaker (parameters_from_sound y q) (λ r z k. first_by set inner p q r y z h i k)))

  maybe_result_sound : Sound (IsMaybeResult set.rules inner) (maybe_result set readers)
  unfolding maybe_result
  maybe_result_sound p =
      reads_if (sees s.Colon p)
      (λ h. reads_then (expect_sound set s.Colon p) (λ a t i. reads_then (result_sound set inner readers sound a) (λ b u k. reads_ok _ (a, i, k))))
      (λ h. reads_ok _ (h, refl))

  pub body_sound : (method : Option Span) → Sound (IsBody set.rules inner method) (body set readers method)
  unfolding body
  body_sound method p =
      reads_then (generics_sound set inner readers sound false p) (λ a gs h1.
      reads_then (expect_sound set s.LeftParen a) (λ b t1 h2.
      reads_then (parameters_sound b) (λ c own h3.
      reads_then (expect_sound set s.RightParen c) (λ d t2 h4.
      reads_then (maybe_result_sound d) (λ e r h5.
      reads_then (sound.block e) (λ f block h6.
      reads_then (expect_sound set s.End f) (λ q t3 h7.
      reads_ok _ (refl, refl, a, b, c, d, e, f, own.found, h1, h2, h3, h4, h5, h6, h7, has_self method own.found))))))))
