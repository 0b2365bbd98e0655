-- The parsers of types depend on what they take.
use Rattle.std.proofs.Common.{◌≡◌, ℕ, Bool, true, false, ◌||◌, ◌&&◌, sym, ◌∙◌, ap, ap₂, subst, if◌then◌else◌, List, [], ◌∷◌, ◌++◌, refl, codes, Option, Some, None}
use Rattle.std.specs.Prelude.{Ok, Err}
use Rattle.luau_lex.specs.Tokens.{Tok}
use Rattle.luau_tree.specs.declared.names.Access.{Access}
use Rattle.luau_tree.specs.declared.names.Access.TheVariants.{Both, Read, Write}
use Rattle.luau_tree.specs.Tree.{TypeSyntax, TypeKind, Prop, PropKey, Expr, Block}
use Rattle.luau_tree.specs.Tree as tree
use Rattle.luau_tree.specs.View.{types, gens, props}
use Rattle.luau_grammar.specs.declared.symbol.Symbol.{Symbol}
use Rattle.luau_grammar.specs.declared.symbol.Symbol.TheVariants as s
use Rattle.luau_grammar.specs.Symbols.{same, symbol_of}
use Rattle.luau_grammar.specs.Places.{Place, first_symbol, symbol, symbol_behind, sees, sees_behind, sees_word, start_of}
use Rattle.luau_grammar.specs.Phrases.{Listed, in_parens}
use Rattle.luau_grammar.specs.Types.{sees_access, begins_property, sees_typeof, begins_tail, pack_of, begins_named, begin_of}
use Rattle.luau_grammar.specs.Expressions as expressions
use Rattle.luau_grammar.specs.Statements as statements
use Rattle.luau_grammar.specs.Reading as read
use Rattle.luau_grammar.specs.Reading.{Setting, Parser, Outcome, Readers, ◌>>=◌, ◌>>◌, and_then, pure, start}
use Rattle.luau_grammar.specs.ReadPhrases as phrases
use Rattle.luau_grammar.specs.ReadTypes as code
use Rattle.luau_grammar.specs.ReadTypes.{Members, Braced, goes_braced, goes_members, goes_marks, goes_options}
use Rattle.other_ends.proofs.Fork.{Fork, Forked, Peeks, Names, Link, Dotted, Aside, IsDeep, Far, BeyondOf, perhaps, here, beyond_then, both, choose, choose2, either_name, least, done, given, at_start, at_last, at_here, at_span, to_level, peeks_sees, peeks_const, peeks_of, peeks_and, peeks_or, peeks_symbol, peeks_start}
use Rattle.other_ends.proofs.ForkCases.{by_symbol}
use Rattle.other_ends.proofs.ForkNames.{two_of, two_or, only_name, name_is, then_if, name_names, next_names, expect_names, name_beyond, next_beyond, expect_beyond, names_then, names_start, names_if, names_else, dotted_then, dotted_start, dotted_else, dotted_no, name_aside, forked_by}
use Rattle.other_ends.proofs.ForkTokens.{refuses, any, token, eaten, a_name, a_string, raises, phrased, phrase_names, phrase_dotted}
use Rattle.other_ends.proofs.ForkSteps.{steps, in_list}
pub use Rattle.other_ends.proofs.ForkBraces.{no_braced, right_of, left_of, left_or, right_or, pure_case, peeks_goes_on, peeks_front, two_named, two_tail, two_access, two_property, two_typeof, silent_name, silent_named, silent_tail, silent_brace, silent_typeof, peeks_separator, peeks_braced, peeks_members, separator_forked, one_braced_forked, braced_forked, one_braced_names, braced_names, braced_beyond}

abbrev at_rest : List Tok → ℕ → ℕ → Place
at_rest ts l m = record { ahead = ts; last = l; level = m }

-- the parsers of phrases that hold one another depend on what they take
pub record ForkReaders (set : Setting) (w : Fork) (r : Readers) : Type 0 where
  pub link : Link set w
  pub exp : Forked w 1 (r.exp)
  pub typ : Forked w 1 (r.typ None)
  pub begun : (l : Listed) → Forked w 0 (r.typ (Some l))
  pub block : Forked w 0 (r.block)
  pub exp_named : Names false w (r.exp)
  pub typ_named : Names false w (r.typ None)
  pub exp_dotted : Dotted w (r.exp)
  pub typ_dotted : Dotted w (r.typ None)

module _ (set : Setting) (inner : Readers) (w : Fork) (held : ForkReaders set w inner) where
  pub exp_forked : Forked w 1 (phrases.expression set inner)
  unfolding phrases.expression
  exp_forked = phrased set phrases.may_begin_expression (peeks_of expressions.begins peeks_symbol) (held.exp)

  pub typ_forked : Forked w 1 (phrases.typ set inner None)
  unfolding phrases.typ
  typ_forked = phrased set (phrases.may_begin_type None) (peeks_of phrases.begins_type peeks_symbol) (held.typ)

  pub begun_forked : (l : Listed) → Forked w 0 (phrases.typ set inner (Some l))
  unfolding phrases.typ
  begun_forked l = phrased set (phrases.may_begin_type (Some l)) (peeks_const true) (held.begun l)

  pub block_forked : Forked w 0 (phrases.block set inner)
  unfolding phrases.block
  block_forked = phrased set phrases.may_begin_block (peeks_of statements.begins peeks_symbol) (held.block)

  pub exp_names : Names false w (phrases.expression set inner)
  unfolding phrases.expression symbol
  exp_names = phrase_names set held.link phrases.may_begin_expression (λ e ts l m. ap expressions.begins (name_is (symbol_of w.token) e)) held.exp_named

  pub typ_names : Names false w (phrases.typ set inner None)
  unfolding phrases.typ symbol
  typ_names = phrase_names set held.link (phrases.may_begin_type None) (λ e ts l m. ap phrases.begins_type (name_is (symbol_of w.token) e)) held.typ_named

  pub exp_before_dot : Dotted w (phrases.expression set inner)
  unfolding phrases.expression symbol
  exp_before_dot = phrase_dotted set phrases.may_begin_expression (λ e ts l m. ap expressions.begins (name_is (symbol_of w.token) e)) held.exp_dotted

  pub typ_before_dot : Dotted w (phrases.typ set inner None)
  unfolding phrases.typ symbol
  typ_before_dot = phrase_dotted set (phrases.may_begin_type None) (λ e ts l m. ap phrases.begins_type (name_is (symbol_of w.token) e)) held.typ_dotted

  pub variadic_forked : Forked w 1 (code.variadic set inner)
  unfolding code.variadic
  variadic_forked =
      least 1 refl (both at_start (λ from. both (token set s.Dots) (λ _. both typ_forked (λ t. both (at_span from) (λ span. done (tree.the_type span (tree.Variadic t)))))))

  pub generic_pack_forked : Forked w 1 (code.generic_pack set inner)
  unfolding code.generic_pack
  generic_pack_forked =
      least 1 refl (both at_start (λ from. both (a_name set) (λ name. both (token set s.Dots) (λ _. both (at_span from) (λ span. done (tree.the_type span (tree.GenericPack name)))))))

  pub generic_pack_names : Names true w (code.generic_pack set inner)
  unfolding code.generic_pack
  generic_pack_names = names_start (λ from. names_then (name_names set held.link) (λ name. both (token set s.Dots) (λ _. both (at_span from) (λ span. done (tree.the_type span (tree.GenericPack name))))))

  pub generic_pack_beyond : same (symbol_of w.token) s.Name ≡ true → (l m : ℕ) → (sees s.Name (here w.token w.one l m) && sees_behind s.Dots (here w.token w.one l m)) ≡ true → w.stands m ≡ true
      → BeyondOf w.one (code.generic_pack set inner (here w.token w.one l m))
  unfolding code.generic_pack sees_behind symbol_behind same
  generic_pack_beyond e l m c z =
      name_beyond set held.link s.Dots refl (λ n t. both (at_span (start_of (here w.token w.one l m))) (λ span. done (tree.the_type span (tree.GenericPack n)))) e l m
      (right_of (sees s.Name (here w.token w.one l m)) (same (first_symbol w.one) s.Dots) c) z

  tail_is : same (symbol_of w.token) s.Name ≡ true → (l m : ℕ) → code.tail set inner (here w.token w.one l m) ≡ code.generic_pack set inner (here w.token w.one l m)
  unfolding code.tail sees symbol same
  tail_is e l m =
      ap (λ b. if b then code.variadic set inner (here w.token w.one l m) else code.generic_pack set inner (here w.token w.one l m)) (only_name (symbol_of w.token) s.Dots e refl)

  tail_test : same (symbol_of w.token) s.Name ≡ true → (l m : ℕ) → begins_tail (here w.token w.one l m) ≡ true → (sees s.Name (here w.token w.one l m) && sees_behind s.Dots (here w.token w.one l m)) ≡ true
  unfolding sees symbol same
  tail_test e l m c = right_or (same (symbol_of w.token) s.Dots) (same (symbol_of w.token) s.Name && sees_behind s.Dots (here w.token w.one l m)) (only_name (symbol_of w.token) s.Dots e refl) c

  pub tail_beyond : same (symbol_of w.token) s.Name ≡ true → (l m : ℕ) → begins_tail (here w.token w.one l m) ≡ true → w.stands m ≡ true → BeyondOf w.one (code.tail set inner (here w.token w.one l m))
  tail_beyond e l m c z = subst (λ o. BeyondOf w.one o) (sym (tail_is e l m)) (generic_pack_beyond e l m (tail_test e l m c) z)

  pub tail_names : Names true w (code.tail set inner)
  unfolding code.tail same
  tail_names = names_else s.Dots (code.variadic set inner) refl generic_pack_names

  pub tail_forked : Forked w 1 (code.tail set inner)
  unfolding code.tail
  tail_forked = choose (peeks_sees s.Dots) variadic_forked generic_pack_forked

  abbrev named_member : Members → Bool → Parser Members
  named_member found here = phrases.typ set inner None >>= (λ t. pure (record { types = found.types ++ t ∷ []; named = found.named || here; tailed = false }))

  named_member_forked : (found : Members) (here : Bool) → Forked w 1 (named_member found here)
  named_member_forked found here = least 1 refl (both typ_forked (λ t. done (record { types = found.types ++ t ∷ []; named = found.named || here; tailed = false })))

  abbrev colon_name : Parser Bool
  colon_name = read.name set >> read.expect set s.Colon >> pure true

  colon_name_forked : Forked w 1 colon_name
  colon_name_forked = least 1 refl (both (both (a_name set) (λ _. token set s.Colon)) (λ _. done true))

  colon_name_names : Names true w colon_name
  colon_name_names = names_then (names_then (name_names set held.link) (λ _. token set s.Colon)) (λ _. done true)

  colon_end : (o : Outcome (List ℕ)) → and_then o (λ _. read.expect set s.Colon >>= (λ t. pure t)) ≡ and_then o (λ _. read.expect set s.Colon)
  colon_end (Ok x) = pure_case (read.expect set s.Colon x.1)
  colon_end (Err e) = refl

  name_colon_beyond : same (symbol_of w.token) s.Name ≡ true → (l m : ℕ) → same (first_symbol w.one) s.Colon ≡ true → w.stands m ≡ true → BeyondOf w.one ((read.name set >>= (λ _. read.expect set s.Colon)) (here w.token w.one l m))
  unfolding same
  name_colon_beyond e l m d z =
      subst (λ o. BeyondOf w.one o) (colon_end (read.name set (here w.token w.one l m))) (name_beyond set held.link s.Colon refl (λ _ t. done t) e l m d z)

  colon_name_beyond : (found : Members) → same (symbol_of w.token) s.Name ≡ true → (l m : ℕ) → begins_named (here w.token w.one l m) ≡ true → w.stands m ≡ true
      → BeyondOf w.one ((colon_name >>= named_member found) (here w.token w.one l m))
  unfolding sees_behind symbol_behind same
  colon_name_beyond found e l m c z =
      beyond_then w.one (named_member found) (colon_name (here w.token w.one l m))
      (beyond_then w.one (λ _. pure true) ((read.name set >>= (λ _. read.expect set s.Colon)) (here w.token w.one l m))
      (name_colon_beyond e l m (right_of (sees s.Name (here w.token w.one l m)) (same (first_symbol w.one) s.Colon) c) z) (λ _. (done {w = w} true).one))
      (λ x. (named_member_forked found x).one)

  abbrev chosen_member : Members → Parser Members
  chosen_member found p = if begins_named p then and_then (colon_name p) (named_member found) else named_member found false p

  abbrev tailed_member : Members → Parser Members
  tailed_member found = code.tail set inner >>= (λ t. pure (record { types = found.types ++ t ∷ []; named = found.named; tailed = true }))

  same_member : (found : Members) (p : Place) → code.member set inner found p ≡ (if begins_tail p then tailed_member found p else chosen_member found p)
  unfolding code.member code.member_name
  same_member found p = ap (λ z. if begins_tail p then tailed_member found p else z) (then_if (begins_named p) (colon_name p) (Ok (false, p)) (named_member found))

  member_before_dot : (found : Members) → Dotted w (named_member found false)
  member_before_dot found = dotted_then typ_before_dot (λ t. done (record { types = found.types ++ t ∷ []; named = found.named || false; tailed = false }))

  pub member_forked : (found : Members) → Forked w 1 (code.member set inner found)
  member_forked found =
      forked_by (same_member found)
      (choose2 begins_tail two_tail
      (names_then tail_names (λ t. done (record { types = found.types ++ t ∷ []; named = found.named; tailed = true })))
      (names_if begins_named (perhaps (names_then colon_name_names (named_member_forked found))) (names_then typ_names (λ t. done (record { types = found.types ++ t ∷ []; named = found.named || false; tailed = false }))))
      (λ e l m c z. beyond_then w.one (λ t. pure (record { types = found.types ++ t ∷ []; named = found.named; tailed = true })) (code.tail set inner (here w.token w.one l m)) (tail_beyond e l m c z)
      (λ t. (done {w = w} {A = Members} (record { types = found.types ++ t ∷ []; named = found.named; tailed = true })).one))
      (silent_tail w) (dotted_no begins_named (λ p. and_then (colon_name p) (named_member found)) (silent_named w) (member_before_dot found))
      (least 1 refl (both tail_forked (λ t. done (record { types = found.types ++ t ∷ []; named = found.named; tailed = true }))))
      (choose2 begins_named two_named (names_then colon_name_names (named_member_forked found)) (names_then typ_names (λ t. done (record { types = found.types ++ t ∷ []; named = found.named || false; tailed = false })))
      (colon_name_beyond found) (silent_named w) (member_before_dot found)
      (least 1 refl (both colon_name_forked (named_member_forked found))) (named_member_forked found false)))

  pub another_member_forked : (found : Members) → Forked w 1 (code.another_member set inner found)
  unfolding code.another_member
  another_member_forked found = least 1 refl (both (token set s.Comma) (λ _. member_forked found))

  pub members_from_forked : (found : Members) → Forked w 0 (code.members_from set inner found)
  unfolding code.members_from
  members_from_forked found = steps set goes_members (code.another_member set inner) peeks_members another_member_forked found

  pub members_forked : Forked w 1 (code.members set inner)
  unfolding code.members
  members_forked = least 1 refl (both (member_forked (record { types = []; named = false; tailed = false })) members_from_forked)

  pub maybe_members_forked : Forked w 0 (code.maybe_members set inner)
  unfolding code.maybe_members
  maybe_members_forked = choose (peeks_sees s.RightParen) (done (record { types = []; named = false; tailed = false })) (least 0 refl members_forked)

  pub listed_forked : Forked w 1 (code.listed set inner)
  unfolding code.listed
  listed_forked =
      least 1 refl (both at_start (λ from. both (token set s.LeftParen) (λ _. both maybe_members_forked (λ found. both (token set s.RightParen) (λ _. both at_last (λ to.
      done (record { start = from; end = to; types = found.types; named = found.named; tailed = found.tailed })))))))

  pub after_list_forked : (l : Listed) → Forked w 0 (code.after_list set inner l)
  unfolding code.after_list
  after_list_forked l = choose (peeks_front l) (begun_forked l) (done (pack_of l))

  pub result_forked : Forked w 1 (code.result set inner)
  unfolding code.result
  result_forked =
      choose (peeks_sees s.LeftParen) (least 1 refl (both listed_forked after_list_forked)) (choose2 begins_tail two_tail tail_names typ_names tail_beyond (silent_tail w) typ_before_dot tail_forked typ_forked)

  pub maybe_results_forked : Forked w 0 (code.maybe_results set inner)
  unfolding code.maybe_results
  maybe_results_forked = choose (peeks_sees s.Greater) (done tree.no_types) (least 0 refl (both (in_list set result_forked) (λ ts. done (types ts))))

  pub type_arguments_forked : Forked w 0 (code.type_arguments set inner)
  unfolding code.type_arguments
  type_arguments_forked =
      choose (peeks_sees s.Less) (least 0 refl (both (token set s.Less) (λ _. both maybe_results_forked (λ ts. both (token set s.Greater) (λ _. done ts))))) (done tree.no_types)

  pub default_forked : (may : Bool) → Forked w 0 (code.default set inner may)
  unfolding code.default
  default_forked may =
      choose (peeks_and (peeks_const may) (peeks_sees s.Assign))
      (least 0 refl (both (token set s.Assign) (λ _. both result_forked (λ t. done (tree.a_type t))))) (done tree.no_type)

  pub generic_forked : (may : Bool) → Forked w 1 (code.generic set inner may)
  unfolding code.generic
  generic_forked may =
      least 1 refl (both at_start (λ from. both (a_name set) (λ name. both (at_span from) (λ span. both (eaten set s.Dots) (λ pack. both (default_forked may) (λ d.
      done (tree.the_gen name span pack d)))))))

  pub generics_behind_forked : (may : Bool) → Forked w 1 (code.generics_behind set inner may)
  unfolding code.generics_behind
  generics_behind_forked may = least 1 refl (both (in_list set (generic_forked may)) (λ gs. both (token set s.Greater) (λ _. done (gens gs))))

  pub generics_forked : (may : Bool) → Forked w 0 (code.generics set inner may)
  unfolding code.generics
  generics_forked may = choose (peeks_sees s.Less) (least 0 refl (both (token set s.Less) (λ _. generics_behind_forked may))) (done tree.no_gens)

  pub indexer_forked : Forked w 1 (code.indexer set inner)
  unfolding code.indexer
  indexer_forked =
      least 1 refl (both (token set s.LeftBracket) (λ _. both typ_forked (λ t. both (token set s.RightBracket) (λ _. both (token set s.Colon) (λ _. done (tree.Indexer t))))))

  pub property_name_forked : Forked w 1 (code.property_name set inner)
  unfolding code.property_name
  property_name_forked = least 1 refl (both (a_name set) (λ name. both (token set s.Colon) (λ _. done (tree.NameKey name))))

  pub key_forked : Forked w 1 (code.key set inner)
  unfolding code.key
  key_forked = choose (peeks_sees s.LeftBracket) indexer_forked property_name_forked

  key_names : Names true w (code.key set inner)
  unfolding code.key code.property_name same
  key_names = names_else s.LeftBracket (code.indexer set inner) refl (names_then (name_names set held.link) (λ name. both (token set s.Colon) (λ _. done (tree.NameKey name))))

  abbrev keyed : Access → Parser Prop
  keyed how = code.key set inner >>= (λ what. phrases.typ set inner None >>= (λ t. pure (tree.the_prop how what t)))

  keyed_forked : (how : Access) → Forked w 1 (keyed how)
  keyed_forked how = least 1 refl (both key_forked (λ what. both typ_forked (λ t. done (tree.the_prop how what t))))

  abbrev word_access : Access → Parser Access
  word_access how = read.next set >> pure how

  keyed_names : Names true w (keyed Both)
  keyed_names = names_then key_names (λ what. both typ_forked (λ t. done (tree.the_prop Both what t)))

  worded_forked : (how : Access) → Forked w 1 (λ p. and_then (word_access how p) keyed)
  worded_forked how = least 1 refl (both (both (any set) (λ _. done how)) keyed_forked)

  worded_names : (how : Access) → Names true w (λ p. and_then (word_access how p) keyed)
  worded_names how = names_then (names_then (next_names set held.link) (λ _. done how)) keyed_forked

  abbrev written : Parser Prop
  written p = if sees_access (codes "write") p then and_then (word_access Write p) keyed else keyed Both p

  same_property : (p : Place) → code.property set inner p ≡ (if sees_access (codes "read") p then and_then (word_access Read p) keyed else written p)
  unfolding code.property code.access
  same_property p =
      then_if (sees_access (codes "read") p) (word_access Read p) (if sees_access (codes "write") p then word_access Write p else Ok (Both, p)) keyed
      ∙ ap (λ z. if sees_access (codes "read") p then and_then (word_access Read p) keyed else z) (then_if (sees_access (codes "write") p) (word_access Write p) (Ok (Both, p)) keyed)

  written_names : Names true w written
  written_names = names_if (sees_access (codes "write")) (worded_names Write) keyed_names

  chosen_property_names : Names true w (λ p. if sees_access (codes "read") p then and_then (word_access Read p) keyed else written p)
  chosen_property_names = names_if (sees_access (codes "read")) (worded_names Read) written_names

  pub property_forked : Forked w 1 (code.property set inner)
  property_forked =
      forked_by same_property (either_name (sees_access (codes "read")) (two_access (codes "read")) (worded_names Read) written_names (worded_forked Read)
      (either_name (sees_access (codes "write")) (two_access (codes "write")) (worded_names Write) keyed_names (worded_forked Write) (keyed_forked Both)))

  property_names : Names true w (code.property set inner)
  property_names = record {
    taken = λ e ts l m b z. subst (λ o. Far w.bound o) (sym (same_property (here w.token ts l m))) (chosen_property_names.taken e ts l m b z);
    deep = λ e ts l m b z. subst (λ o. IsDeep o) (sym (same_property (here w.token ts l m))) (chosen_property_names.deep e ts l m b z);
  }

  -- a property takes the token behind its name
  abbrev behind_bracket : Parser PropKey
  behind_bracket = phrases.typ set inner None >>= (λ t. read.expect set s.RightBracket >>= (λ _. read.expect set s.Colon >>= (λ _. pure (tree.Indexer t))))

  behind_bracket_forked : Forked w 1 behind_bracket
  behind_bracket_forked = least 1 refl (both typ_forked (λ t. both (token set s.RightBracket) (λ _. both (token set s.Colon) (λ _. done (tree.Indexer t)))))

  named_key_forked : (name : List ℕ) → Forked w 1 (read.expect set s.Colon >>= (λ _. pure (tree.NameKey name)))
  named_key_forked name = least 1 refl (both (token set s.Colon) (λ _. done (tree.NameKey name)))

  key_second : (l m : ℕ) (b : Bool) → same (first_symbol w.one) s.LeftBracket ≡ b → (same (first_symbol w.one) s.Name || same (first_symbol w.one) s.LeftBracket) ≡ true
      → BeyondOf w.one (if b then (read.expect set s.LeftBracket >>= (λ _. behind_bracket)) (at_rest w.one l m) else (read.name set >>= (λ name. read.expect set s.Colon >>= (λ _. pure (tree.NameKey name)))) (at_rest w.one l m))
  unfolding read.name same
  key_second l m true d c =
      beyond_then w.one (λ _. behind_bracket) (read.expect set s.LeftBracket (at_rest w.one l m)) (expect_beyond set s.LeftBracket w.one l m w.one_next refl d) (λ _. behind_bracket_forked.one)
  key_second l m false d c =
      beyond_then w.one (λ name. read.expect set s.Colon >>= (λ _. pure (tree.NameKey name))) (read.name set (at_rest w.one l m))
      (beyond_then w.one (λ t. pure t.bytes) (read.expect set s.Name (at_rest w.one l m))
      (expect_beyond set s.Name w.one l m w.one_next refl (left_or (same (first_symbol w.one) s.Name) (same (first_symbol w.one) s.LeftBracket) d c)) (λ t. (done {w = w} t.bytes).one))
      (λ name. (named_key_forked name).one)

  key_beyond : (l m : ℕ) → (same (first_symbol w.one) s.Name || same (first_symbol w.one) s.LeftBracket) ≡ true → BeyondOf w.one (code.key set inner (at_rest w.one l m))
  unfolding code.key code.indexer code.property_name sees symbol
  key_beyond l m c = key_second l m (same (first_symbol w.one) s.LeftBracket) refl c

  behind_key_forked : (how : Access) (what : PropKey) → Forked w 1 (phrases.typ set inner None >>= (λ t. pure (tree.the_prop how what t)))
  behind_key_forked how what = least 1 refl (both typ_forked (λ t. done (tree.the_prop how what t)))

  then_word : (how : Access) (o : Outcome Tok) → and_then o (λ _. keyed how) ≡ and_then (and_then o (λ _. pure how)) keyed
  then_word how (Ok x) = refl
  then_word how (Err e) = refl

  worded_beyond : (how : Access) (l m : ℕ) → w.stands m ≡ true → (same (first_symbol w.one) s.Name || same (first_symbol w.one) s.LeftBracket) ≡ true → BeyondOf w.one (and_then (word_access how (here w.token w.one l m)) keyed)
  worded_beyond how l m z c =
      subst (λ o. BeyondOf w.one o) (then_word how (read.next set (here w.token w.one l m)))
      (next_beyond set held.link (λ _. keyed how) l m z (beyond_then w.one (λ what. phrases.typ set inner None >>= (λ t. pure (tree.the_prop how what t))) (code.key set inner (at_rest w.one w.token.span.end m)) (key_beyond w.token.span.end m c)
      (λ what. (behind_key_forked how what).one)))

  named_property_beyond : same (symbol_of w.token) s.Name ≡ true → (l m : ℕ) → same (first_symbol w.one) s.Colon ≡ true → w.stands m ≡ true → BeyondOf w.one (keyed Both (here w.token w.one l m))
  unfolding code.key code.property_name sees symbol same
  named_property_beyond e l m d z =
      beyond_then w.one (λ what. phrases.typ set inner None >>= (λ t. pure (tree.the_prop Both what t))) (code.key set inner (here w.token w.one l m))
      (subst (λ b. BeyondOf w.one (if b then code.indexer set inner (here w.token w.one l m) else (read.name set >>= (λ name. read.expect set s.Colon >>= (λ _. pure (tree.NameKey name)))) (here w.token w.one l m)))
      (sym (only_name (symbol_of w.token) s.LeftBracket e refl)) (name_beyond set held.link s.Colon refl (λ name _. done (tree.NameKey name)) e l m d z))
      (λ what. (behind_key_forked Both what).one)

  property_case : same (symbol_of w.token) s.Name ≡ true → (l m : ℕ) → begins_property (here w.token w.one l m) ≡ true → w.stands m ≡ true
      → (a : Bool) → sees_access (codes "read") (here w.token w.one l m) ≡ a → (b : Bool) → sees_access (codes "write") (here w.token w.one l m) ≡ b
      → BeyondOf w.one (if a then and_then (word_access Read (here w.token w.one l m)) keyed else (if b then and_then (word_access Write (here w.token w.one l m)) keyed else keyed Both (here w.token w.one l m)))
  unfolding sees_behind symbol_behind sees symbol same
  property_case e l m c z true d b k =
      worded_beyond Read l m z (right_of (sees_word (codes "read") (here w.token w.one l m)) (same (first_symbol w.one) s.Name || same (first_symbol w.one) s.LeftBracket) d)
  property_case e l m c z false d true k =
      worded_beyond Write l m z (right_of (sees_word (codes "write") (here w.token w.one l m)) (same (first_symbol w.one) s.Name || same (first_symbol w.one) s.LeftBracket) k)
  property_case e l m c z false d false k =
      let bracket = same (symbol_of w.token) s.LeftBracket in
      let colon = same (symbol_of w.token) s.Name && same (first_symbol w.one) s.Colon in
      named_property_beyond e l m
      (right_of (same (symbol_of w.token) s.Name) (same (first_symbol w.one) s.Colon)
      (right_or bracket colon (only_name (symbol_of w.token) s.LeftBracket e refl)
      (left_or (bracket || colon) (sees_access (codes "read") (here w.token w.one l m) || sees_access (codes "write") (here w.token w.one l m)) (ap₂ (λ x y. x || y) d k) c))) z

  property_beyond : same (symbol_of w.token) s.Name ≡ true → (l m : ℕ) → begins_property (here w.token w.one l m) ≡ true → w.stands m ≡ true → BeyondOf w.one (code.property set inner (here w.token w.one l m))
  property_beyond e l m c z =
      subst (λ o. BeyondOf w.one o) (sym (same_property (here w.token w.one l m)))
      (property_case e l m c z (sees_access (codes "read") (here w.token w.one l m)) refl (sees_access (codes "write") (here w.token w.one l m)) refl)

  pub array_forked : (from : ℕ) → Forked w 1 (code.array set inner from)
  unfolding code.array
  array_forked from = least 1 refl (both typ_forked (λ t. both (token set s.RightBrace) (λ _. both (at_span from) (λ span. done (tree.the_type span (tree.Array t))))))

  pub table_forked : (from : ℕ) → Forked w 1 (code.table set inner from)
  unfolding code.table
  table_forked from =
      least 1 refl (both (braced_forked set property_forked) (λ found. both (token set s.RightBrace) (λ _. both (at_span from) (λ span. done (tree.the_type span (tree.TableType (props found.items)))))))

  array_names : (from : ℕ) → Names false w (code.array set inner from)
  unfolding code.array
  array_names from = names_then typ_names (λ t. both (token set s.RightBrace) (λ _. both (at_span from) (λ span. done (tree.the_type span (tree.Array t)))))

  table_names : (from : ℕ) → Names true w (code.table set inner from)
  unfolding code.table
  table_names from =
      names_then (braced_names set property_forked property_names) (λ found. both (token set s.RightBrace) (λ _. both (at_span from) (λ span. done (tree.the_type span (tree.TableType (props found.items))))))

  array_before_dot : (from : ℕ) → Dotted w (code.array set inner from)
  unfolding code.array
  array_before_dot from = dotted_then typ_before_dot (λ t. both (token set s.RightBrace) (λ _. both (at_span from) (λ span. done (tree.the_type span (tree.Array t)))))

  brace_test : same (symbol_of w.token) s.Name ≡ true → (l m : ℕ) → (sees s.RightBrace (here w.token w.one l m) || begins_property (here w.token w.one l m)) ≡ true → begins_property (here w.token w.one l m) ≡ true
  unfolding sees symbol same
  brace_test e l m c = right_or (same (symbol_of w.token) s.RightBrace) (begins_property (here w.token w.one l m)) (only_name (symbol_of w.token) s.RightBrace e refl) c

  table_beyond : (from : ℕ) → same (symbol_of w.token) s.Name ≡ true → (l m : ℕ) → (sees s.RightBrace (here w.token w.one l m) || begins_property (here w.token w.one l m)) ≡ true → w.stands m ≡ true
      → BeyondOf w.one (code.table set inner from (here w.token w.one l m))
  unfolding code.table same
  table_beyond from e l m c z =
      beyond_then w.one (λ found. read.expect set s.RightBrace >>= (λ _. read.span_from from >>= (λ span. pure (tree.the_type span (tree.TableType (props found.items)))))) (code.braced set (code.property set inner) (here w.token w.one l m))
      (braced_beyond set property_forked e l m (property_beyond e l m (brace_test e l m c) z))
      (λ found. (both {w = w} (token set s.RightBrace) (λ _. both (at_span from) (λ span. done (tree.the_type span (tree.TableType (props found.items)))))).one)

  pub table_or_array_forked : Forked w 1 (code.table_or_array set inner)
  unfolding code.table_or_array
  table_or_array_forked =
      least 1 refl (both at_start (λ from. both (token set s.LeftBrace) (λ _.
      choose2 (λ p. sees s.RightBrace p || begins_property p) (two_or (two_of (peeks_sees s.RightBrace)) two_property) (table_names from) (array_names from) (table_beyond from) (silent_brace w) (array_before_dot from) (table_forked from) (array_forked from))))

  pub typeof_forked : Forked w 1 (code.typeof_form set inner)
  unfolding code.typeof_form
  typeof_forked =
      least 1 refl (both at_start (λ from. both (token set s.Name) (λ _. both (token set s.LeftParen) (λ _. both exp_forked (λ e. both (token set s.RightParen) (λ _. both (at_span from) (λ span.
      done (tree.the_type span (tree.Typeof e)))))))))

  pub dotted_forked : (from : ℕ) (first : List ℕ) → Forked w 1 (code.dotted set inner from first)
  unfolding code.dotted
  dotted_forked from first =
      least 1 refl (both (token set s.Dot) (λ _. both (a_name set) (λ second. both type_arguments_forked (λ args. both (at_span from) (λ span.
      done (tree.the_type span (tree.Named (Some first) second args)))))))

  pub undotted_forked : (from : ℕ) (name : List ℕ) → Forked w 0 (code.undotted set inner from name)
  unfolding code.undotted
  undotted_forked from name =
      least 0 refl (both type_arguments_forked (λ args. both (at_span from) (λ span. done (tree.the_type span (tree.Named None name args)))))

  pub named_behind_forked : (from : ℕ) (first : List ℕ) → Forked w 0 (code.named_behind set inner from first)
  unfolding code.named_behind
  named_behind_forked from first = choose (peeks_sees s.Dot) (least 0 refl (dotted_forked from first)) (undotted_forked from first)

  pub named_forked : Forked w 1 (code.named set inner)
  unfolding code.named
  named_forked = least 1 refl (both at_start (λ from. both (a_name set) (λ first. named_behind_forked from first)))

  pub generic_function_forked : Forked w 1 (code.generic_function set inner)
  unfolding code.generic_function
  generic_function_forked =
      least 1 refl (both at_start (λ from. both (generics_forked false) (λ gs. both listed_forked (λ l. both (token set s.Arrow) (λ _. both result_forked (λ r. both (at_span from) (λ span.
      done (tree.the_type span (tree.Func gs (types l.types) r)))))))))

  pub word_forked : (kind : TypeKind) → Forked w 1 (code.word set inner kind)
  unfolding code.word
  word_forked kind = least 1 refl (both at_start (λ from. both (any set) (λ _. both (at_span from) (λ span. done (tree.the_type span kind)))))

  pub literal_forked : Forked w 1 (code.literal set inner)
  unfolding code.literal
  literal_forked = least 1 refl (both at_start (λ from. both (a_string set s.Text) (λ value. both (at_span from) (λ span. done (tree.the_type span (tree.StrType value))))))

  typeof_names : Names true w (code.typeof_form set inner)
  unfolding code.typeof_form
  typeof_names =
      names_start (λ from. names_then (expect_names set held.link) (λ _. both (token set s.LeftParen) (λ _. both exp_forked (λ e. both (token set s.RightParen) (λ _. both (at_span from) (λ span.
      done (tree.the_type span (tree.Typeof e))))))))

  named_names : Names true w (code.named set inner)
  unfolding code.named
  named_names = names_start (λ from. names_then (name_names set held.link) (λ first. named_behind_forked from first))

  name_form_names : Names true w (code.name_form set inner)
  unfolding code.name_form
  name_form_names = names_if sees_typeof typeof_names named_names

  pub name_form_forked : Forked w 1 (code.name_form set inner)
  unfolding code.name_form
  name_form_forked = either_name sees_typeof two_typeof typeof_names named_names typeof_forked named_forked

  abbrev behind_dot : ℕ → List ℕ → Parser TypeSyntax
  behind_dot from first = read.name set >>= (λ second. code.type_arguments set inner >>= (λ args. read.span_from from >>= (λ span. pure (tree.the_type span (tree.Named (Some first) second args)))))

  behind_dot_forked : (from : ℕ) (first : List ℕ) → Forked w 1 (behind_dot from first)
  behind_dot_forked from first = least 1 refl (both (a_name set) (λ second. both type_arguments_forked (λ args. both (at_span from) (λ span. done (tree.the_type span (tree.Named (Some first) second args))))))

  dotted_beyond : (from : ℕ) (first : List ℕ) (l m : ℕ) → same (first_symbol w.one) s.Dot ≡ true → BeyondOf w.one (code.named_behind set inner from first (at_rest w.one l m))
  unfolding code.named_behind code.dotted sees symbol same
  dotted_beyond from first l m d =
      subst (λ c. BeyondOf w.one (if c then (read.expect set s.Dot >>= (λ _. behind_dot from first)) (at_rest w.one l m) else code.undotted set inner from first (at_rest w.one l m))) (sym d)
      (beyond_then w.one (λ _. behind_dot from first) (read.expect set s.Dot (at_rest w.one l m)) (expect_beyond set s.Dot w.one l m w.one_next refl d) (λ _. (behind_dot_forked from first).one))

  named_before_dot : Dotted w (code.named set inner)
  unfolding code.named
  named_before_dot = dotted_start {f = λ from. read.name set >>= (λ first. code.named_behind set inner from first)} (λ from. record {
    aside = λ e d l m. name_aside set held.link (code.named_behind set inner from) e l m (dotted_beyond from w.token.bytes w.token.span.end m d) (w.stands m) refl;
  })

  name_form_before_dot : Dotted w (code.name_form set inner)
  unfolding code.name_form
  name_form_before_dot = dotted_no sees_typeof (code.typeof_form set inner) (silent_typeof w) named_before_dot

  pub form_by_forked : (x : Symbol) → Forked w 1 (code.form_by set inner x)
  form_by_forked s.Nil = word_forked tree.NilType
  form_by_forked s.True = word_forked (tree.BoolType true)
  form_by_forked s.False = word_forked (tree.BoolType false)
  form_by_forked s.Text = literal_forked
  form_by_forked s.Name = name_form_forked
  form_by_forked s.LeftBrace = table_or_array_forked
  form_by_forked s.Less = generic_function_forked
  form_by_forked _ = refuses set 1

  pub form_forked : Forked w 1 (code.form set inner)
  unfolding code.form
  form_forked = by_symbol symbol (code.form_by set inner) peeks_symbol form_by_forked

  pub only_in_parens_forked : (o : Option TypeSyntax) → Forked w 0 (code.only_in_parens set inner o)
  only_in_parens_forked None = refuses set 0
  only_in_parens_forked (Some t) = done t

  pub function_behind_forked : (l : Listed) → Forked w 1 (code.function_behind set inner l)
  unfolding code.function_behind
  function_behind_forked l =
      least 1 refl (both (token set s.Arrow) (λ _. both result_forked (λ r. both (at_span (l.start)) (λ span. done (tree.the_type span (tree.Func tree.no_gens (types l.types) r))))))

  pub listed_type_forked : (l : Listed) → Forked w 0 (code.listed_type set inner l)
  unfolding code.listed_type
  listed_type_forked l = choose (peeks_sees s.Arrow) (least 0 refl (function_behind_forked l)) (only_in_parens_forked (in_parens l))

  pub basic_forked : Forked w 1 (code.basic set inner None)
  unfolding code.basic
  basic_forked = choose (peeks_sees s.LeftParen) (least 1 refl (both listed_forked listed_type_forked)) form_forked

  pub basic_begun_forked : (l : Listed) → Forked w 0 (code.basic set inner (Some l))
  unfolding code.basic
  basic_begun_forked l = listed_type_forked l

  pub mark_forked : (from : ℕ) (t : TypeSyntax) → Forked w 1 (code.mark set inner from t)
  unfolding code.mark
  mark_forked from t = least 1 refl (both (token set s.Question) (λ _. both (raises set) (λ _. both (at_span from) (λ span. done (tree.the_type span (tree.Optional t))))))

  pub all_marks_forked : (from : ℕ) (t : TypeSyntax) → Forked w 0 (code.all_marks set inner from t)
  unfolding code.all_marks
  all_marks_forked from t = steps set goes_marks (code.mark set inner from) (λ _. peeks_sees s.Question) (mark_forked from) t

  pub marks_forked : (from : ℕ) (t : TypeSyntax) → Forked w 0 (code.marks set inner from t)
  unfolding code.marks
  marks_forked from t = least 0 refl (both at_here (λ outer. both (all_marks_forked from t) (λ u. both (to_level outer) (λ _. done u))))

  pub begin_forked : (begun : Option Listed) → Peeks w (begin_of begun)
  begin_forked None = peeks_start
  begin_forked (Some l) = peeks_const l.start

  pub option_forked : Forked w 1 (code.option set inner None)
  unfolding code.option
  option_forked = least 1 refl (both (given (begin_forked None)) (λ from. both basic_forked (λ t. marks_forked from t)))

  pub option_begun_forked : (l : Listed) → Forked w 0 (code.option set inner (Some l))
  unfolding code.option
  option_begun_forked l = least 0 refl (both (given (begin_forked (Some l))) (λ from. both (basic_begun_forked l) (λ t. marks_forked from t)))

  pub another_option_forked : (sign : Symbol) (found : List TypeSyntax) → Forked w 1 (code.another_option set inner sign found)
  unfolding code.another_option
  another_option_forked sign found = least 1 refl (both (token set sign) (λ _. both option_forked (λ t. done (found ++ t ∷ []))))

  pub options_from_forked : (sign : Symbol) (found : List TypeSyntax) → Forked w 0 (code.options_from set inner sign found)
  unfolding code.options_from
  options_from_forked sign found = steps set (goes_options sign) (code.another_option set inner sign) (λ _. peeks_sees sign) (another_option_forked sign) found

  pub options_forked : (sign : Symbol) (first : TypeSyntax) → Forked w 0 (code.options set inner sign first)
  unfolding code.options
  options_forked sign first = options_from_forked sign (first ∷ [])

  pub union_forked : (from : ℕ) (first : TypeSyntax) → Forked w 0 (code.union_behind set inner from first)
  unfolding code.union_behind
  union_forked from first = least 0 refl (both (options_forked s.Pipe first) (λ ts. both (at_span from) (λ span. done (tree.the_type span (tree.Union (types ts))))))

  pub meet_forked : (from : ℕ) (first : TypeSyntax) → Forked w 0 (code.meet_behind set inner from first)
  unfolding code.meet_behind
  meet_forked from first = least 0 refl (both (options_forked s.Ampersand first) (λ ts. both (at_span from) (λ span. done (tree.the_type span (tree.Meet (types ts))))))

  pub joined_forked : (from : ℕ) (first : TypeSyntax) → Forked w 0 (code.joined set inner from first)
  unfolding code.joined
  joined_forked from first =
      choose (peeks_sees s.Pipe) (union_forked from first) (choose (peeks_sees s.Ampersand) (meet_forked from first) (done first))

  pub bar_forked : (begun : Option Listed) → Forked w 0 (code.bar set inner begun)
  unfolding code.bar
  bar_forked (Some l) = done (tt {0})
  bar_forked None =
      choose (peeks_or (peeks_sees s.Pipe) (peeks_sees s.Ampersand)) (least 0 refl (both (any set) (λ _. done (tt {0})))) (done (tt {0}))

  pub type_inside_forked : Forked w 1 (code.type_inside set inner None)
  unfolding code.type_inside
  type_inside_forked = least 1 refl (both (bar_forked None) (λ _. both (given (begin_forked None)) (λ from. both option_forked (λ first. joined_forked from first))))

  pub type_begun_forked : (l : Listed) → Forked w 0 (code.type_inside set inner (Some l))
  unfolding code.type_inside
  type_begun_forked l =
      least 0 refl (both (bar_forked (Some l)) (λ _. both (given (begin_forked (Some l))) (λ from. both (option_begun_forked l) (λ first. joined_forked from first))))

  -- ---- a type that begins with a name

  form_names : Names true w (code.form set inner)
  unfolding code.form symbol
  form_names = record {
    taken = λ e ts l m b z. subst (λ x. Far w.bound (code.form_by set inner x (here w.token ts l m))) (sym (name_is (symbol_of w.token) e)) (name_form_names.taken e ts l m b z);
    deep = λ e ts l m b z. subst (λ x. IsDeep (code.form_by set inner x (here w.token ts l m))) (sym (name_is (symbol_of w.token) e)) (name_form_names.deep e ts l m b z);
  }

  basic_names : Names true w (code.basic set inner None)
  unfolding code.basic same
  basic_names = names_else s.LeftParen (code.listed set inner >>= code.listed_type set inner) refl form_names

  form_before_dot : Dotted w (code.form set inner)
  unfolding code.form symbol
  form_before_dot = record { aside = λ e d l m. subst (λ x. Aside w.one (code.form_by set inner x (here w.token w.one l m))) (sym (name_is (symbol_of w.token) e)) (name_form_before_dot.aside e d l m) }

  basic_before_dot : Dotted w (code.basic set inner None)
  unfolding code.basic same
  basic_before_dot = dotted_else s.LeftParen (code.listed set inner >>= code.listed_type set inner) refl form_before_dot

  option_before_dot : Dotted w (code.option set inner None)
  unfolding code.option
  option_before_dot = dotted_start (λ from. dotted_then basic_before_dot (λ t. marks_forked from t))

  abbrev optioned : ℕ → Parser TypeSyntax
  optioned from = code.option set inner None >>= (λ first. code.joined set inner from first)

  option_names : Names true w (code.option set inner None)
  unfolding code.option
  option_names = names_start (λ from. names_then basic_names (λ t. marks_forked from t))

  abbrev barred : Unit {0} → Parser TypeSyntax
  barred _ = start >>= optioned

  barred_names : Names true w (barred tt)
  barred_names = names_start (λ from. names_then option_names (λ first. joined_forked from first))

  pub type_inside_names : Names true w (code.type_inside set inner None)
  unfolding code.type_inside code.bar sees symbol same
  type_inside_names = record {
    taken = λ e ts l m b z.
        let p = here w.token ts l m in
        subst (λ c. Far w.bound (and_then (if c then (read.next set >> pure (tt {0})) p else Ok (tt {0}, p)) barred))
        (sym (ap₂ (λ x y. x || y) (only_name (symbol_of w.token) s.Pipe e refl) (only_name (symbol_of w.token) s.Ampersand e refl))) (barred_names.taken e ts l m b z);
    deep = λ e ts l m b z.
        let p = here w.token ts l m in
        subst (λ c. IsDeep (and_then (if c then (read.next set >> pure (tt {0})) p else Ok (tt {0}, p)) barred))
        (sym (ap₂ (λ x y. x || y) (only_name (symbol_of w.token) s.Pipe e refl) (only_name (symbol_of w.token) s.Ampersand e refl))) (barred_names.deep e ts l m b z);
  }

  barred_before_dot : Dotted w (barred tt)
  barred_before_dot = dotted_start (λ from. dotted_then option_before_dot (λ first. joined_forked from first))

  pub type_inside_before_dot : Dotted w (code.type_inside set inner None)
  unfolding code.type_inside code.bar sees symbol same
  type_inside_before_dot = record {
    aside = λ e d l m.
        let p = here w.token w.one l m in
        subst (λ c. Aside w.one (and_then (if c then (read.next set >> pure (tt {0})) p else Ok (tt {0}, p)) barred))
        (sym (ap₂ (λ x y. x || y) (only_name (symbol_of w.token) s.Pipe e refl) (only_name (symbol_of w.token) s.Ampersand e refl))) (barred_before_dot.aside e d l m);
  }
