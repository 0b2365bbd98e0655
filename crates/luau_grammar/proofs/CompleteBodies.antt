-- What the grammar says of parameters and function bodies, their parsers read.
use Rattle.std.proofs.Common.{◌≡◌, ℕ, zero, suc, ◌≤◌, ◌<◌, Bool, true, false, List, [], ◌∷◌, ◌++◌, length, refl, sym, ap, subst, inl, inr, append_assoc, append-nil, arith}
use Rattle.std.specs.Prelude.{Option, Some, None, is_some}
use Rattle.luau_tree.specs.declared.position.Span.{Span}
use Rattle.luau_tree.specs.Tree.{Block, Body, Bind, Binds, Gens, MaybeType, TypeSyntax, Varargs}
use Rattle.luau_tree.specs.Tree as tree
use Rattle.luau_tree.specs.View.{binds}
use Rattle.luau_grammar.specs.declared.symbol.Symbol.TheVariants as s
use Rattle.luau_grammar.specs.Symbols.{same}
use Rattle.luau_grammar.specs.Places.{Place, Takes, TakesName, sees, over}
use Rattle.luau_grammar.specs.Phrases.{Phrases}
use Rattle.luau_grammar.specs.Expressions.{HasSelf, AreAttributes, IsAnnotation, IsBind, IsVarType, IsVarparam, AreParameters, IsMaybeResult, IsBody}
use Rattle.luau_grammar.specs.Reading.{Setting, Readers}
use Rattle.luau_grammar.specs.ReadTypes as readtypes
use Rattle.luau_grammar.specs.ReadExpressions.{Parameters, with_self, goes_parameters, no_parameters, attribute, attributes, annotation, bind, var_type, var_annotation, varparam, rest_parameter, named_parameter, parameter, another_parameter, parameters_from, some_parameters, parameters, maybe_result, body}
use Rattle.luau_grammar.proofs.Agreement.{Bounded, Reached, Complete, CompletePhrases}
use Rattle.luau_grammar.proofs.Primitives.{Gives, gives_ok, gives_same, gives_here, gives_then, gives_if_true, gives_if_false, gives_expect, takes_bounded, takes_sees, takes_not, takes_taken, name_complete, name_token}
use Rattle.luau_grammar.proofs.CompleteLists.{Loops, loop_stop, loop_step, loop_done}
use Rattle.luau_grammar.proofs.CompleteTypes.{generics_complete, result_complete}
use Rattle.luau_grammar.proofs.PlainPhrases.{PlainPhrases}
use Rattle.luau_grammar.proofs.SoundBodies.{AreFollowing, unfollow}

-- whose parameters these are
self_has : (method : Option Span) (has_self : Bool) (own : List Bind) (all : Binds) → HasSelf method has_self own all
    → (has_self ≡ is_some method) × (all ≡ binds (with_self method own))
self_has None has_self own all h = (h.0, h.1)
self_has (Some name) has_self own all h = (h.0, h.1)

the_same_body : (id id' : ℕ) (has_self has_self' : Bool) (gs : Gens) (params params' : Binds) (rest : Varargs) (r : MaybeType) (block : Block) (span span' : Span)
    → id ≡ id' → has_self ≡ has_self' → params ≡ params' → span ≡ span'
    → tree.the_body id' has_self' gs params' rest r block span' ≡ tree.the_body id has_self gs params rest r block span
the_same_body id id' has_self has_self' gs params params' rest r block span span' h1 h2 h3 h4 = cc

module _ (low : ℕ) (set : Setting) (inner : Phrases) (readers : Readers) (complete : CompletePhrases low set inner readers) where
  attribute_complete : (x : Unit {0}) (p a q : Place) (name : List ℕ) → low ≤ p.level → Takes set.rules s.AtSign p a
      → TakesName set.rules a q name → Gives low p (attribute set readers x p) q tt
  unfolding attribute
  attribute_complete x p a q name l h n =
      gives_then _
      (gives_expect set _ s.AtSign p a l h (λ t k. name_complete set low a q name k n))
      (λ k. gives_ok k)

  attributes_loop : (n : ℕ) (p q : Place) → low ≤ p.level → AreAttributes set.rules inner n p q
      → Loops low set (λ x p. sees s.AtSign p) (attribute set readers) tt p q tt
  attributes_loop zero p q l h =
      subst (λ z. Loops low set (λ x p. sees s.AtSign p) (attribute set readers) tt p z tt) (sym h.1)
      (loop_stop low set (λ x p. sees s.AtSign p) (attribute set readers) tt p h.0 l)
  attributes_loop (suc n) p q l h =
      let g = attribute_complete tt p h.0 h.1 h.2 l h.3 h.4 in
      let t = takes_taken set.rules p h.0 s.AtSign h.3 in
      let u = takes_taken set.rules h.0 h.1 s.Name (name_token set.rules h.0 h.1 h.2 h.4) in
      loop_step low set (λ x p. sees s.AtSign p) (attribute set readers) tt tt tt p h.1 q
      (takes_sees set.rules p h.0 s.AtSign h.3) g (omega arith) (attributes_loop n h.1 q g.1.level h.5)

  pub attributes_complete : Complete low (λ p q y. (n : ℕ) × AreAttributes set.rules inner n p q) (attributes set readers)
  unfolding attributes
  attributes_complete p q y l h = loop_done low set (λ x p. sees s.AtSign p) (attribute set readers) tt tt p q (attributes_loop h.0 p q l h.1)

  pub annotation_complete : Complete low (IsAnnotation set.rules inner) (annotation set readers)
  unfolding annotation
  annotation_complete p q tree.no_type l h = gives_if_false _ h.0 (gives_here l h.1)
  annotation_complete p q (tree.a_type t) l h =
      gives_if_true _ (takes_sees set.rules p h.0 s.Colon h.1)
      (gives_expect set _ s.Colon p h.0 l h.1 (λ u k. gives_then _ (complete.typ h.0 q t k h.2) (λ m. gives_ok m)))

  pub bind_complete : Complete low (IsBind set.rules inner) (bind set readers)
  unfolding bind
  bind_complete p q (tree.the_bind name span typ) l h =
      gives_same (ap (λ z. tree.the_bind name z typ) (sym h.2))
      (gives_then _ (name_complete set low p h.0 name l h.1) (λ k. gives_then _ (annotation_complete h.0 q typ k h.3) (λ m. gives_ok m)))

  bind_shorter : (p q : Place) (x : Bind) → low ≤ p.level → IsBind set.rules inner p q x → length q.ahead < length p.ahead
  bind_shorter p q (tree.the_bind name span typ) l h =
      let t = takes_taken set.rules p h.0 s.Name (name_token set.rules p h.0 name h.1) in
      let k : low ≤ h.0.level = omega arith in
      let r : Reached low h.0 q = (annotation_complete h.0 q typ k h.3).1 in
      omega arith

  var_type_complete : Complete low (IsVarType set.rules inner) (var_type set readers)
  unfolding var_type readtypes.generic_pack
  var_type_complete p q t l (inl h) =
      gives_if_true _ h.0
      (gives_same (sym h.5)
      (gives_then _ (name_complete set low p h.1 h.2 l h.3) (λ k. gives_expect set _ s.Dots h.1 q k h.4 (λ u m. gives_ok m))))
  var_type_complete p q t l (inr h) = gives_if_false _ h.0 (complete.typ p q t l h.1)

  pub varparam_complete : Complete low (IsVarparam set.rules inner) (varparam set readers)
  unfolding varparam var_annotation
  varparam_complete p q tree.no_type l h =
      gives_expect set _ s.Dots p q l h.0 (λ u k. gives_if_false _ h.1 (gives_ok k))
  varparam_complete p q (tree.a_type t) l h =
      gives_expect set _ s.Dots p h.0 l h.2 (λ u k.
      gives_if_true _ (takes_sees set.rules h.0 h.1 s.Colon h.3)
      (gives_expect set _ s.Colon h.0 h.1 k h.3 (λ v m. gives_then _ (var_type_complete h.1 q t m h.4) (λ n. gives_ok n))))

  named_complete : (given : Parameters) (p q : Place) (x : Bind) → low ≤ p.level → sees s.Dots p ≡ false → IsBind set.rules inner p q x
      → Gives low p (parameter set readers given p) q (record { found = given.found ++ x ∷ []; rest = tree.no_varargs })
  unfolding parameter named_parameter
  named_complete given p q x l h i = gives_if_false _ h (gives_then _ (bind_complete p q x l i) (λ k. gives_ok k))

  rest_complete : (given : Parameters) (p q : Place) (t : MaybeType) → low ≤ p.level → sees s.Dots p ≡ true → IsVarparam set.rules inner p q t
      → Gives low p (parameter set readers given p) q (record { found = given.found; rest = tree.varargs t })
  unfolding parameter rest_parameter
  rest_complete given p q t l h i = gives_if_true _ h (gives_then _ (varparam_complete p q t l i) (λ k. gives_ok k))

  abbrev LoopsParameters : Parameters → Place → Place → Parameters → Type 0
  LoopsParameters = Loops low set goes_parameters (another_parameter set readers)

  another_complete : (given y : Parameters) (p a q : Place) → low ≤ p.level → Takes set.rules s.Comma p a
      → (low ≤ a.level → Gives low a (parameter set readers given a) q y) → Gives low p (another_parameter set readers given p) q y
  unfolding another_parameter
  another_complete given y p a q l c k = gives_expect set _ s.Comma p a l c (λ u m. k m)

  follow_loop : (found more : List Bind) (v : Varargs) (p q : Place) → low ≤ p.level → AreFollowing set inner p q more v
      → LoopsParameters (record { found = found; rest = tree.no_varargs }) p q (record { found = found ++ more; rest = v })
  follow_loop found [] tree.no_varargs p q l f =
      let given : Parameters = record { found = found; rest = tree.no_varargs } in
      subst (λ z. LoopsParameters given p z (record { found = found ++ []; rest = tree.no_varargs })) (sym f.1)
      (subst (λ z. LoopsParameters given p p (record { found = z; rest = tree.no_varargs })) (sym (append-nil found))
      (loop_stop low set goes_parameters (another_parameter set readers) given p f.0 l))
  follow_loop found [] (tree.varargs t) p q l f =
      let given : Parameters = record { found = found; rest = tree.no_varargs } in
      let all : Parameters = record { found = found; rest = tree.varargs t } in
      let g = another_complete given all p f.0 q l f.1 (λ k. rest_complete given f.0 q t k f.2 f.3) in
      let u = takes_taken set.rules p f.0 s.Comma f.1 in
      let k : low ≤ f.0.level = omega arith in
      let r : Reached low f.0 q = (varparam_complete f.0 q t k f.3).1 in
      subst (λ z. LoopsParameters given p q (record { found = z; rest = tree.varargs t })) (sym (append-nil found))
      (loop_step low set goes_parameters (another_parameter set readers) given all all p q q (takes_sees set.rules p f.0 s.Comma f.1) g (omega arith)
      (loop_stop low set goes_parameters (another_parameter set readers) all q refl g.1.level))
  follow_loop found (x ∷ xs) v p q l f =
      let given : Parameters = record { found = found; rest = tree.no_varargs } in
      let next : Parameters = record { found = found ++ x ∷ []; rest = tree.no_varargs } in
      let g = another_complete given next p f.0 f.1 l f.2 (λ k. named_complete given f.0 f.1 x k f.3 f.4) in
      let u = takes_taken set.rules p f.0 s.Comma f.2 in
      let k : low ≤ f.0.level = omega arith in
      let r = bind_shorter f.0 f.1 x k f.4 in
      subst (λ z. LoopsParameters given p q (record { found = z; rest = v })) (append_assoc found (x ∷ []) xs)
      (loop_step low set goes_parameters (another_parameter set readers) given next (record { found = (found ++ x ∷ []) ++ xs; rest = v }) p f.1 q
      (takes_sees set.rules p f.0 s.Comma f.2) g (omega arith) (follow_loop (found ++ x ∷ []) xs v f.1 q g.1.level f.5))

  dots_first : (p q : Place) (t : MaybeType) → IsVarparam set.rules inner p q t → sees s.RightParen p ≡ false
  unfolding same
  dots_first p q tree.no_type h = takes_not set.rules p q s.Dots s.RightParen refl h.0
  dots_first p q (tree.a_type t) h = takes_not set.rules p h.0 s.Dots s.RightParen refl h.2

  parameters_by : (found : List Bind) (rest : Varargs) (p q : Place) → low ≤ p.level → AreParameters set.rules inner p q found rest
      → Gives low p (parameters set readers p) q (record { found = found; rest = rest })
  unfolding parameters some_parameters parameters_from
  parameters_by [] tree.no_varargs p q l h = gives_if_true _ h.0 (gives_here l h.1)
  parameters_by [] (tree.varargs t) p q l h =
      gives_if_false _ (dots_first p q t h.1)
      (gives_then _ (rest_complete no_parameters p q t l h.0 h.1) (λ k.
      let all : Parameters = record { found = []; rest = tree.varargs t } in
      loop_done low set goes_parameters (another_parameter set readers) all all q q
      (loop_stop low set goes_parameters (another_parameter set readers) all q refl k)))
  parameters_by (x ∷ xs) v p q l h =
      let f = unfollow set inner p q x xs v h.2 in
      gives_if_false _ h.0
      (gives_then _ (named_complete no_parameters p f.0 x l h.1 f.1) (λ k.
      loop_done low set goes_parameters (another_parameter set readers) (record { found = x ∷ []; rest = tree.no_varargs }) (record { found = x ∷ xs; rest = v }) f.0 q
      (follow_loop (x ∷ []) xs v f.0 q k f.2)))

  pub parameters_complete : Complete low (λ p q all. AreParameters set.rules inner p q all.found all.rest) (parameters set readers)
  parameters_complete p q all l h = parameters_by all.found all.rest p q l h

  maybe_result_complete : Bounded set → Complete low (IsMaybeResult set.rules inner) (maybe_result set readers)
  unfolding maybe_result
  maybe_result_complete bounded p q tree.no_type l h = gives_if_false _ h.0 (gives_here l h.1)
  maybe_result_complete bounded p q (tree.a_type t) l h =
      gives_if_true _ (takes_sees set.rules p h.0 s.Colon h.1)
      (gives_expect set _ s.Colon p h.0 l h.1 (λ u k. gives_then _ (result_complete low set inner readers bounded complete h.0 q t k h.2) (λ m. gives_ok m)))

  pub body_complete : Bounded set → PlainPhrases inner → (method : Option Span)
      → Complete low (IsBody set.rules inner method) (body set readers method)
  unfolding body
  body_complete bounded plain method p q (tree.the_body id has_self gs params rest r block span) l h =
      let (id_is, span_is, a, b, c, d, e, f, own, h1, h2, h3, h4, h5, h6, h7, h8) = h in
      let self = self_has method has_self own params h8 in
      let e_level : e.level ≤ set.limit = let u = plain.level e f block h6 in let v = takes_bounded set f q s.End bounded h7 in omega arith in
      gives_same (the_same_body id 0 has_self (is_some method) gs params (binds (with_self method own)) rest r block span (over p q) id_is self.0 self.1 span_is)
      (gives_then _ (generics_complete low set inner readers bounded complete false p a gs l h1) (λ k1.
      gives_expect set _ s.LeftParen a b k1 h2 (λ t1 k2.
      gives_then _ (parameters_by own rest b c k2 h3) (λ k3.
      gives_expect set _ s.RightParen c d k3 h4 (λ t2 k4.
      gives_then _ (maybe_result_complete bounded d e r k4 h5) (λ k5.
      gives_then _ (complete.block e f block k5 (e_level, h6)) (λ k6.
      gives_expect set _ s.End f q k6 h7 (λ t3 k7. gives_ok k7))))))))
