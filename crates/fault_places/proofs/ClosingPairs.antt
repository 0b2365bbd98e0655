-- The parsers that tell by a name and the token behind it what comes next, up to a refused token.
use Rattle.std.proofs.Common.{◌≡◌, ℕ, ◌≤◌, Bool, true, false, ◌&&◌, List, ◌∷◌, refl, sym, ◌∙◌, ap, subst, codes, None, arith, if◌then◌else◌}
use Rattle.luau_lex.specs.Tokens.{Tok}
use Rattle.luau_tree.specs.Tree as tree
use Rattle.luau_grammar.specs.declared.symbol.Symbol.TheVariants as s
use Rattle.luau_grammar.specs.Symbols.{same, symbol_of}
use Rattle.luau_grammar.specs.Places.{first_symbol, symbol, symbol_behind, sees, sees_behind, start_of}
use Rattle.luau_grammar.specs.Expressions.{sees_pack, begins_field}
use Rattle.luau_grammar.specs.Reading as read
use Rattle.luau_grammar.specs.Reading.{Parser, Readers, ◌>>=◌, and_then, pure}
use Rattle.luau_grammar.specs.ReadPhrases as phrases
use Rattle.luau_grammar.specs.ReadTypes as types
use Rattle.luau_grammar.specs.ReadExpressions as code
use Rattle.grammar_faults.proofs.LocalTypes as locals
use Rattle.grammar_faults.proofs.LocalTypes.{LocalReaders}
use Rattle.grammar_faults.proofs.Local.{least, both, done}
use Rattle.fault_places.proofs.Closing.{Frame, ApartOf, place, roof, Far, Opens, Goes, far_then, opens_by}
use Rattle.fault_places.proofs.ClosingTokens.{any, never, phrase_opens, other_opens, under}
use Rattle.fault_places.proofs.ClosingSteps.{Reads, link, rest}
use Rattle.fault_places.proofs.ClosingWords.{EndsType, EndsValue, the_name, the_sign}
use Rattle.fault_places.proofs.ClosingSymbols.{symbol_of_it, given, peek_sees, sees_first, either, if_seen}
use Rattle.fault_places.proofs.ClosingLists.{Held, some_tails, expression_reads, typ_reads}
use Rattle.fault_places.proofs.ClosingBodies.{then_then}
use Rattle.fault_places.proofs.ClosingNames.{seen_far, first_far, either_by_two}
use Rattle.fault_places.proofs.ClosingTypes.{generic_pack_reads}
use Rattle.fault_places.proofs.ClosingValues.{field_reads, keyed_reads}

pub second : (a b : Bool) → (a && b) ≡ true → b ≡ true
second true b h = h
second false b h = absurd (cc)

pub no_second : (a b : Bool) → b ≡ false → (a && b) ≡ false
no_second true b h = h
no_second false b h = refl

module _ (f : Frame) where
  pub name_far : {B : Type 0} (u : Tok) (l m : ℕ) → ApartOf f.cut u → (h : List ℕ → Parser B) → Far f (h u.bytes (place f.cut u.span.end m)) → Far f ((read.name f.low >>= h) (place (u ∷ f.cut) l m))
  unfolding read.name
  name_far u l m a h k =
      subst (λ o. Far f o) (then_then (read.expect f.low s.Name (place (u ∷ f.cut) l m)) (λ t. pure t.bytes) h)
      (first_far f s.Name u l m a (λ t. h t.bytes) k)

module _ (f : Frame) (low high : Readers) (held : Held f low high) (local : LocalReaders some_tails low) where
  pub typ_named : (u : Tok) → same (symbol_of u) s.Name ≡ true → Opens f (roof f) EndsType any (λ zs. u ∷ zs) tt (phrases.typ f.high high None)
  unfolding phrases.typ
  typ_named u e = phrase_opens f (phrases.may_begin_type None) (held.typ_opens u e)

  pub exp_named : (u : Tok) → same (symbol_of u) s.Name ≡ true → Opens f (roof f) EndsValue any (λ zs. u ∷ zs) tt (phrases.expression f.high high)
  unfolding phrases.expression
  exp_named u e = phrase_opens f phrases.may_begin_expression (held.exp_opens u e)

  pub pack_beyond : (u : Tok) (l m : ℕ) → ApartOf f.cut u → same (symbol_of u) s.Name ≡ true → sees_pack (place (u ∷ f.cut) l m) ≡ true → Far f (types.generic_pack f.low low (place (u ∷ f.cut) l m))
  unfolding types.generic_pack sees sees_behind symbol symbol_behind start_of same
  pack_beyond u l m a e d =
      name_far f u l m a (λ n. read.expect f.low s.Dots >>= (λ _. read.span_from u.span.start >>= (λ i. pure (tree.the_type i (tree.GenericPack n)))))
      (far_then f (λ _. read.span_from u.span.start >>= (λ i. pure (tree.the_type i (tree.GenericPack u.bytes)))) (read.expect f.low s.Dots (place f.cut u.span.end m))
      (seen_far f s.Dots u.span.end m refl (second (same (symbol_of u) s.Name) (same (first_symbol f.cut) s.Dots) d)) (λ x q b. b))

  var_named : (u : Tok) → same (symbol_of u) s.Name ≡ true → Opens f (roof f) EndsType any (λ zs. u ∷ zs) tt (code.var_type f.high high)
  unfolding code.var_type sees sees_behind symbol symbol_behind
  var_named u e =
      other_opens f {close = λ zs. u ∷ zs} sees_pack (types.generic_pack f.high high) (λ zs l m z. no_second (same (symbol_of u) s.Name) (same (first_symbol zs) s.Dots) z.dots) (typ_named u e)

  var_type_reads : Reads f EndsType any (λ zs. the_name f.at ∷ zs) tt never (code.var_type f.low low) (code.var_type f.high high)
  unfolding code.var_type sees sees_behind symbol symbol_behind same symbol_of
  var_type_reads = record {
    goes = either_by_two f tree.TypeSyntax EndsType sees_pack (types.generic_pack f.low low) (types.generic_pack f.high high) (phrases.typ f.low low None) (phrases.typ f.high high None)
        (λ u e ts us l m. ap (λ z. z && same (first_symbol ts) s.Dots) e ∙ sym (ap (λ z. z && same (first_symbol us) s.Dots) e))
        (λ u w ts us l m. refl)
        pack_beyond var_named
        ((locals.typ_local f.low low some_tails local).takes)
        (under f (λ x z. tt) (generic_pack_reads f low high held local).goes) (typ_reads f low high held).goes;
    opens = var_named (the_name f.at) refl;
    late = λ zs fol b. (let x : f.at ≤ f.at = omega arith in x, b);
  }

  pub var_annotation_reads : Reads f EndsType any (λ zs. zs) tt (λ z. z ≡ tt) (code.var_annotation f.low low) (code.var_annotation f.high high)
  unfolding code.var_annotation same symbol_of
  var_annotation_reads =
      if_seen f (sees s.Colon) (peek_sees s.Colon) (λ zs l m z. sees_first s.Colon zs l m ∙ z.colon)
      (link f (symbol_of_it f s.Colon (the_sign f.at (codes ":")) refl refl) (λ _ _.
      rest f var_type_reads (λ x y. given f EndsType (tree.a_type x) (tree.a_type y)) (λ _ z. z)) (λ _ _. tt))
      (given f EndsType tree.no_type tree.no_type)

  -- ---- items of a table

  abbrev value_low : Parser tree.Item
  value_low = phrases.expression f.low low >>= (λ v. pure (tree.Plain v))

  abbrev value_high : Parser tree.Item
  value_high = phrases.expression f.high high >>= (λ v. pure (tree.Plain v))

  abbrev behind_low : List ℕ → Parser tree.Item
  behind_low n = phrases.expression f.low low >>= (λ v. pure (tree.Field n v))

  behind_reads : (n o : List ℕ) → Reads f EndsValue any (λ zs. the_name f.at ∷ zs) tt never (behind_low n) (phrases.expression f.high high >>= (λ v. pure (tree.Field o v)))
  behind_reads n o = rest f (expression_reads f low high held) (λ x y. given f EndsValue (tree.Field n x) (tree.Field o y)) (λ _ z. z)

  plain_opens : (u : Tok) → same (symbol_of u) s.Name ≡ true → Opens f (roof f) EndsValue any (λ zs. u ∷ zs) tt value_high
  plain_opens u e =
      opens_by f tree.Expr tree.Item (Unit {0}) (Unit {0}) EndsValue EndsValue any any never (λ _ _. ⊥) never (phrases.expression f.high high) (phrases.expression f.high high)
      (λ v. pure (tree.Plain v)) (λ v. pure (tree.Plain v)) (λ _ zs. zs) (λ _. tt) (exp_named u e) (λ y. (given f EndsValue (tree.Plain y) (tree.Plain y)).opens) (λ _ zs z. z)

  plain_goes : Goes f EndsValue any never value_low value_high
  plain_goes = (rest f (expression_reads f low high held) (λ x y. given f EndsValue (tree.Plain x) (tree.Plain y)) (λ _ z. z)).goes

  field_beyond : (u : Tok) (l m : ℕ) → ApartOf f.cut u → same (symbol_of u) s.Name ≡ true → begins_field (place (u ∷ f.cut) l m) ≡ true → Far f (code.field f.low low (place (u ∷ f.cut) l m))
  unfolding code.field sees sees_behind symbol symbol_behind same
  field_beyond u l m a e d =
      name_far f u l m a (λ n. read.expect f.low s.Assign >>= (λ _. behind_low n))
      (far_then f (λ _. behind_low u.bytes) (read.expect f.low s.Assign (place f.cut u.span.end m))
      (seen_far f s.Assign u.span.end m refl (second (same (symbol_of u) s.Name) (same (first_symbol f.cut) s.Assign) d)) (λ x q b. (behind_reads u.bytes u.bytes).goes.far q b))

  item_named : (u : Tok) → same (symbol_of u) s.Name ≡ true → Opens f (roof f) EndsValue any (λ zs. u ∷ zs) tt (λ p. if begins_field p then code.field f.high high p else value_high p)
  unfolding sees sees_behind symbol symbol_behind
  item_named u e =
      other_opens f {close = λ zs. u ∷ zs} begins_field (code.field f.high high) (λ zs l m z. no_second (same (symbol_of u) s.Name) (same (first_symbol zs) s.Assign) z.typ.assign) (plain_opens u e)

  unkeyed_reads : Reads f EndsValue any (λ zs. the_name f.at ∷ zs) tt never (λ p. if begins_field p then code.field f.low low p else value_low p) (λ p. if begins_field p then code.field f.high high p else value_high p)
  unfolding sees sees_behind symbol symbol_behind same symbol_of
  unkeyed_reads = record {
    goes = either_by_two f tree.Item EndsValue begins_field (code.field f.low low) (code.field f.high high) value_low value_high
        (λ u e ts us l m. ap (λ z. z && same (first_symbol ts) s.Assign) e ∙ sym (ap (λ z. z && same (first_symbol us) s.Assign) e))
        (λ u w ts us l m. refl)
        field_beyond item_named
        ((least 1 refl (both (locals.exp_local f.low low some_tails local) (λ v. done (tree.Plain v)))).takes)
        (field_reads f low high held local).goes plain_goes;
    opens = item_named (the_name f.at) refl;
    late = λ zs fol b. (let x : f.at ≤ f.at = omega arith in x, b);
  }

  pub item_reads : Reads f EndsValue any (λ zs. the_name f.at ∷ zs) tt never (code.item f.low low) (code.item f.high high)
  unfolding code.item sees symbol same symbol_of
  item_reads = either f {close = λ zs. the_name f.at ∷ zs} (sees s.LeftBracket) (peek_sees s.LeftBracket) (λ zs l m _. refl) (keyed_reads f low high held local) unkeyed_reads
