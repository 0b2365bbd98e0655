-- The parsers of types, by two settings side by side.
use Rattle.std.proofs.Common.{ℕ, ◌+◌, ◌≤◌, Bool, true, false, ◌||◌, ◌&&◌, List, [], ◌∷◌, ◌++◌, refl, codes, Option, Some, None, arith}
use Rattle.luau_tree.specs.declared.names.Access.TheVariants.{Both, Read, Write}
use Rattle.luau_tree.specs.Tree.{TypeSyntax, TypeKind, Expr, Block}
use Rattle.luau_tree.specs.Tree as tree
use Rattle.luau_tree.specs.View.{types, gens, props}
use Rattle.luau_grammar.specs.declared.symbol.Symbol.{Symbol}
use Rattle.luau_grammar.specs.declared.symbol.Symbol.TheVariants as s
use Rattle.luau_grammar.specs.Places.{symbol, sees}
use Rattle.luau_grammar.specs.Phrases.{Listed, in_parens}
use Rattle.luau_grammar.specs.Lists.{sees_separator}
use Rattle.luau_grammar.specs.Types.{sees_access, begins_property, sees_typeof, begins_tail, is_type_front, pack_of, begins_named, begin_of}
use Rattle.luau_grammar.specs.Reading.{Parser, Readers, ◌>>=◌, pure, set_level}
use Rattle.luau_grammar.specs.ReadPhrases as phrases
use Rattle.luau_grammar.specs.ReadTypes as code
use Rattle.luau_grammar.specs.ReadTypes.{Members, Braced, goes_braced, goes_members, goes_marks, goes_options}
use Rattle.grammar_faults.proofs.LocalTypes as locals
use Rattle.grammar_faults.proofs.LocalTypes.{LocalReaders}
use Rattle.wider_rules.proofs.Beside.{Pair, top, Beside, both, choose, within, by_place, given, done, at_start, at_last, at_span, to_level, with_level}
use Rattle.wider_rules.proofs.BesideTokens.{Starts, w, refuses, any, token, token_low, eaten, a_name, a_string, raises, phrased, phrased_low}
use Rattle.wider_rules.proofs.BesideSteps.{steps, in_list}

-- the parsers of phrases that hold one another, by both
pub record Held (f : Pair) (lo : ℕ) (low high : Readers) : Type 0 where
  pub exp : Beside f lo (top f) (top f) low.exp high.exp
  pub typ : Beside f lo (top f) (top f) (low.typ None) (high.typ None)
  pub begun : (l : Listed) → Beside f lo (top f) (top f) (low.typ (Some l)) (high.typ (Some l))
  pub block : Beside f lo (top f) (top f) low.block high.block
  pub exp_starts : Starts f.high phrases.may_begin_expression high.exp
  pub typ_starts : Starts f.high (phrases.may_begin_type None) (high.typ None)
  pub low_local : LocalReaders (w f) low
  pub high_local : LocalReaders (w f) high

module _ (f : Pair) where
  pub floor_low : f.low.limit ≤ f.low.limit
  floor_low = omega arith

  pub ceil_low : f.low.limit ≤ top f
  ceil_low = omega arith

  pub floor_top : f.low.limit ≤ top f
  floor_top = omega arith

  pub ceil_top : top f ≤ top f
  ceil_top = omega arith

module _ (f : Pair) (lo hi : ℕ) (floor : f.low.limit ≤ hi) (ceil : hi ≤ top f) where
  pub separator_beside : Beside f lo hi hi (code.separator f.low) (code.separator f.high)
  unfolding code.separator
  separator_beside = choose f sees_separator (both f (any f floor ceil) (λ _. done f true)) (done f false)

  pub one_braced_beside : {A : Type 0} {item other : Parser A} → Beside f lo hi hi item other → (found : Braced A) → Beside f lo hi hi (code.one_braced f.low item found) (code.one_braced f.high other found)
  one_braced_beside h found =
      both f h (λ x. both f separator_beside (λ more. done f (record { items = found.items ++ x ∷ []; open_ended = more })))

  pub braced_beside : {A : Type 0} {item other : Parser A} → Beside f lo hi hi item other → Beside f lo hi hi (code.braced f.low item) (code.braced f.high other)
  unfolding code.braced
  braced_beside {A = A} {item = item} {other = other} h =
      steps f lo hi goes_braced (code.one_braced f.low item) (code.one_braced f.high other) (one_braced_beside h) (record { items = []; open_ended = true })

module _ (f : Pair) (lo : ℕ) (low high : Readers) (held : Held f (lo + 1) low high) where
  pub block_beside : Beside f lo f.low.limit f.low.limit (phrases.block f.low low) (phrases.block f.high high)
  unfolding phrases.block
  block_beside =
      phrased_low f phrases.may_begin_block held.block (λ p b. (locals.block_local f.low low (w f) held.low_local).one p b)
      (λ p b. (locals.block_local f.high high (w f) held.high_local).one p b)

  -- behind a list in parentheses
  pub begun_beside : (l : Listed) → Beside f lo f.low.limit f.low.limit (phrases.typ f.low low (Some l)) (phrases.typ f.high high (Some l))
  unfolding phrases.typ
  begun_beside l =
      phrased_low f (phrases.may_begin_type (Some l)) (held.begun l) (λ p b. (locals.begun_local f.low low (w f) held.low_local l).one p b)
      (λ p b. (locals.begun_local f.high high (w f) held.high_local l).one p b)

  pub after_list_beside : (l : Listed) → Beside f lo f.low.limit f.low.limit (code.after_list f.low low l) (code.after_list f.high high l)
  unfolding code.after_list
  after_list_beside l = choose f (is_type_front l) (begun_beside l) (done f (pack_of l))

module _ (f : Pair) (lo hi : ℕ) (floor : f.low.limit ≤ hi) (ceil : hi ≤ top f) (low high : Readers) (held : Held f (lo + 1) low high) where
  the_same : hi ≤ hi
  the_same = omega arith

  pub exp_beside : Beside f lo hi hi (phrases.expression f.low low) (phrases.expression f.high high)
  unfolding phrases.expression symbol
  exp_beside =
      phrased f phrases.may_begin_expression ceil (λ p. refl) held.exp_starts held.exp (λ p b. (locals.exp_local f.low low (w f) held.low_local).one p b)
      (λ p b. (locals.exp_local f.high high (w f) held.high_local).one p b)

  pub typ_beside : Beside f lo hi hi (phrases.typ f.low low None) (phrases.typ f.high high None)
  unfolding phrases.typ symbol
  typ_beside =
      phrased f (phrases.may_begin_type None) ceil (λ p. refl) held.typ_starts held.typ (λ p b. (locals.typ_local f.low low (w f) held.low_local).one p b)
      (λ p b. (locals.typ_local f.high high (w f) held.high_local).one p b)

  pub variadic_beside : Beside f lo hi hi (code.variadic f.low low) (code.variadic f.high high)
  unfolding code.variadic
  variadic_beside =
      (both f (at_start f) (λ from. both f (token f floor ceil s.Dots) (λ _. both f typ_beside (λ t. both f (at_span f from) (λ span. done f (tree.the_type span (tree.Variadic t)))))))

  pub generic_pack_beside : Beside f lo hi hi (code.generic_pack f.low low) (code.generic_pack f.high high)
  unfolding code.generic_pack
  generic_pack_beside =
      (both f (at_start f) (λ from. both f (a_name f floor ceil) (λ name. both f (token f floor ceil s.Dots) (λ _. both f (at_span f from) (λ span. done f (tree.the_type span (tree.GenericPack name)))))))

  pub tail_beside : Beside f lo hi hi (code.tail f.low low) (code.tail f.high high)
  unfolding code.tail
  tail_beside = choose f (sees s.Dots) variadic_beside generic_pack_beside

  pub member_name_beside : Beside f lo hi hi (code.member_name f.low low) (code.member_name f.high high)
  unfolding code.member_name
  member_name_beside = choose f begins_named ((both f (both f (a_name f floor ceil) (λ _. token f floor ceil s.Colon)) (λ _. done f true))) (done f false)

  pub member_beside : (found : Members) → Beside f lo hi hi (code.member f.low low found) (code.member f.high high found)
  unfolding code.member
  member_beside found =
      choose f begins_tail ((both f tail_beside (λ t. done f (record { types = found.types ++ t ∷ []; named = found.named; tailed = true }))))
      ((both f member_name_beside (λ here. both f typ_beside (λ t. done f (record { types = found.types ++ t ∷ []; named = found.named || here; tailed = false })))))

  pub another_member_beside : (found : Members) → Beside f lo hi hi (code.another_member f.low low found) (code.another_member f.high high found)
  unfolding code.another_member
  another_member_beside found = (both f (token f floor ceil s.Comma) (λ _. member_beside found))

  pub members_from_beside : (found : Members) → Beside f lo hi hi (code.members_from f.low low found) (code.members_from f.high high found)
  unfolding code.members_from
  members_from_beside found = steps f lo hi goes_members (code.another_member f.low low) (code.another_member f.high high) another_member_beside found

  pub members_beside : Beside f lo hi hi (code.members f.low low) (code.members f.high high)
  unfolding code.members
  members_beside = (both f (member_beside (record { types = []; named = false; tailed = false })) members_from_beside)

  pub maybe_members_beside : Beside f lo hi hi (code.maybe_members f.low low) (code.maybe_members f.high high)
  unfolding code.maybe_members
  maybe_members_beside = choose f (sees s.RightParen) (done f (record { types = []; named = false; tailed = false })) (members_beside)

  pub listed_beside : Beside f lo hi f.low.limit (code.listed f.low low) (code.listed f.high high)
  unfolding code.listed
  listed_beside =
      both f (at_start f) (λ from. both f (token f floor ceil s.LeftParen) (λ _. both f maybe_members_beside (λ found. both f (token_low f floor ceil s.RightParen) (λ _. both f (at_last f) (λ to.
      done f (record { start = from; end = to; types = found.types; named = found.named; tailed = found.tailed }))))))

  pub result_beside : Beside f lo hi hi (code.result f.low low) (code.result f.high high)
  unfolding code.result
  result_beside =
      choose f (sees s.LeftParen) (within f hi hi the_same floor (both f listed_beside (λ l. after_list_beside f lo low high held l))) (choose f begins_tail tail_beside typ_beside)

  pub maybe_results_beside : Beside f lo hi hi (code.maybe_results f.low low) (code.maybe_results f.high high)
  unfolding code.maybe_results
  maybe_results_beside = choose f (sees s.Greater) (done f tree.no_types) ((both f (in_list f floor ceil result_beside) (λ ts. done f (types ts))))

  pub type_arguments_beside : Beside f lo hi hi (code.type_arguments f.low low) (code.type_arguments f.high high)
  unfolding code.type_arguments
  type_arguments_beside =
      choose f (sees s.Less) ((both f (token f floor ceil s.Less) (λ _. both f maybe_results_beside (λ ts. both f (token f floor ceil s.Greater) (λ _. done f ts))))) (done f tree.no_types)

  pub default_beside : (may : Bool) → Beside f lo hi hi (code.default f.low low may) (code.default f.high high may)
  unfolding code.default
  default_beside may =
      choose f (λ p. may && sees s.Assign p)
      ((both f (token f floor ceil s.Assign) (λ _. both f result_beside (λ t. done f (tree.a_type t))))) (done f tree.no_type)

  pub generic_beside : (may : Bool) → Beside f lo hi hi (code.generic f.low low may) (code.generic f.high high may)
  unfolding code.generic
  generic_beside may =
      (both f (at_start f) (λ from. both f (a_name f floor ceil) (λ name. both f (at_span f from) (λ span. both f (eaten f floor ceil s.Dots) (λ pack. both f (default_beside may) (λ d.
      done f (tree.the_gen name span pack d)))))))

  pub generics_behind_beside : (may : Bool) → Beside f lo hi hi (code.generics_behind f.low low may) (code.generics_behind f.high high may)
  unfolding code.generics_behind
  generics_behind_beside may = (both f (in_list f floor ceil (generic_beside may)) (λ gs. both f (token f floor ceil s.Greater) (λ _. done f (gens gs))))

  pub generics_beside : (may : Bool) → Beside f lo hi hi (code.generics f.low low may) (code.generics f.high high may)
  unfolding code.generics
  generics_beside may = choose f (sees s.Less) ((both f (token f floor ceil s.Less) (λ _. generics_behind_beside may))) (done f tree.no_gens)

  pub access_beside : Beside f lo hi hi (code.access f.low low) (code.access f.high high)
  unfolding code.access
  access_beside =
      choose f (sees_access (codes "read")) ((both f (any f floor ceil) (λ _. done f Read)))
      (choose f (sees_access (codes "write")) ((both f (any f floor ceil) (λ _. done f Write))) (done f Both))

  pub indexer_beside : Beside f lo hi hi (code.indexer f.low low) (code.indexer f.high high)
  unfolding code.indexer
  indexer_beside =
      (both f (token f floor ceil s.LeftBracket) (λ _. both f typ_beside (λ t. both f (token f floor ceil s.RightBracket) (λ _. both f (token f floor ceil s.Colon) (λ _. done f (tree.Indexer t))))))

  pub property_name_beside : Beside f lo hi hi (code.property_name f.low low) (code.property_name f.high high)
  unfolding code.property_name
  property_name_beside = (both f (a_name f floor ceil) (λ name. both f (token f floor ceil s.Colon) (λ _. done f (tree.NameKey name))))

  pub key_beside : Beside f lo hi hi (code.key f.low low) (code.key f.high high)
  unfolding code.key
  key_beside = choose f (sees s.LeftBracket) indexer_beside property_name_beside

  pub property_beside : Beside f lo hi hi (code.property f.low low) (code.property f.high high)
  unfolding code.property
  property_beside = (both f access_beside (λ how. both f key_beside (λ what. both f typ_beside (λ t. done f (tree.the_prop how what t)))))

  pub array_beside : (from : ℕ) → Beside f lo hi hi (code.array f.low low from) (code.array f.high high from)
  unfolding code.array
  array_beside from = (both f typ_beside (λ t. both f (token f floor ceil s.RightBrace) (λ _. both f (at_span f from) (λ span. done f (tree.the_type span (tree.Array t))))))

  pub table_beside : (from : ℕ) → Beside f lo hi hi (code.table f.low low from) (code.table f.high high from)
  unfolding code.table
  table_beside from =
      (both f (braced_beside f lo hi floor ceil property_beside) (λ found. both f (token f floor ceil s.RightBrace) (λ _. both f (at_span f from) (λ span. done f (tree.the_type span (tree.TableType (props found.items)))))))

  pub table_or_array_beside : Beside f lo hi hi (code.table_or_array f.low low) (code.table_or_array f.high high)
  unfolding code.table_or_array
  table_or_array_beside =
      (both f (at_start f) (λ from. both f (token f floor ceil s.LeftBrace) (λ _. choose f (λ p. sees s.RightBrace p || begins_property p) (table_beside from) (array_beside from))))

  pub typeof_beside : Beside f lo hi hi (code.typeof_form f.low low) (code.typeof_form f.high high)
  unfolding code.typeof_form
  typeof_beside =
      (both f (at_start f) (λ from. both f (token f floor ceil s.Name) (λ _. both f (token f floor ceil s.LeftParen) (λ _. both f exp_beside (λ e. both f (token f floor ceil s.RightParen) (λ _. both f (at_span f from) (λ span.
      done f (tree.the_type span (tree.Typeof e)))))))))

  pub dotted_beside : (from : ℕ) (first : List ℕ) → Beside f lo hi hi (code.dotted f.low low from first) (code.dotted f.high high from first)
  unfolding code.dotted
  dotted_beside from first =
      (both f (token f floor ceil s.Dot) (λ _. both f (a_name f floor ceil) (λ second. both f type_arguments_beside (λ args. both f (at_span f from) (λ span.
      done f (tree.the_type span (tree.Named (Some first) second args)))))))

  pub undotted_beside : (from : ℕ) (name : List ℕ) → Beside f lo hi hi (code.undotted f.low low from name) (code.undotted f.high high from name)
  unfolding code.undotted
  undotted_beside from name =
      (both f type_arguments_beside (λ args. both f (at_span f from) (λ span. done f (tree.the_type span (tree.Named None name args)))))

  pub named_behind_beside : (from : ℕ) (first : List ℕ) → Beside f lo hi hi (code.named_behind f.low low from first) (code.named_behind f.high high from first)
  unfolding code.named_behind
  named_behind_beside from first = choose f (sees s.Dot) ((dotted_beside from first)) (undotted_beside from first)

  pub named_beside : Beside f lo hi hi (code.named f.low low) (code.named f.high high)
  unfolding code.named
  named_beside = (both f (at_start f) (λ from. both f (a_name f floor ceil) (λ first. named_behind_beside from first)))

  pub generic_function_beside : Beside f lo hi hi (code.generic_function f.low low) (code.generic_function f.high high)
  unfolding code.generic_function
  generic_function_beside =
      both f (at_start f) (λ from. both f (generics_beside false) (λ gs. both f (within f hi hi the_same floor listed_beside) (λ l. both f (token f floor ceil s.Arrow) (λ _. both f result_beside (λ r. both f (at_span f from) (λ span.
      done f (tree.the_type span (tree.Func gs (types l.types) r))))))))

  pub word_beside : (kind : TypeKind) → Beside f lo hi hi (code.word f.low low kind) (code.word f.high high kind)
  unfolding code.word
  word_beside kind = (both f (at_start f) (λ from. both f (any f floor ceil) (λ _. both f (at_span f from) (λ span. done f (tree.the_type span kind)))))

  pub literal_beside : Beside f lo hi hi (code.literal f.low low) (code.literal f.high high)
  unfolding code.literal
  literal_beside = (both f (at_start f) (λ from. both f (a_string f floor ceil s.Text) (λ value. both f (at_span f from) (λ span. done f (tree.the_type span (tree.StrType value))))))

  pub name_form_beside : Beside f lo hi hi (code.name_form f.low low) (code.name_form f.high high)
  unfolding code.name_form
  name_form_beside = choose f sees_typeof typeof_beside named_beside

  pub form_by_beside : (x : Symbol) → Beside f lo hi hi (code.form_by f.low low x) (code.form_by f.high high x)
  form_by_beside s.Nil = word_beside tree.NilType
  form_by_beside s.True = word_beside (tree.BoolType true)
  form_by_beside s.False = word_beside (tree.BoolType false)
  form_by_beside s.Text = literal_beside
  form_by_beside s.Name = name_form_beside
  form_by_beside s.LeftBrace = table_or_array_beside
  form_by_beside s.Less = generic_function_beside
  form_by_beside _ = refuses f

  pub form_beside : Beside f lo hi hi (code.form f.low low) (code.form f.high high)
  unfolding code.form
  form_beside = by_place f symbol (code.form_by f.low low) (code.form_by f.high high) form_by_beside

  pub only_in_parens_beside : (o : Option TypeSyntax) → Beside f lo hi hi (code.only_in_parens f.low low o) (code.only_in_parens f.high high o)
  only_in_parens_beside None = refuses f
  only_in_parens_beside (Some t) = done f t

  pub function_behind_beside : (l : Listed) → Beside f lo hi hi (code.function_behind f.low low l) (code.function_behind f.high high l)
  unfolding code.function_behind
  function_behind_beside l =
      (both f (token f floor ceil s.Arrow) (λ _. both f result_beside (λ r. both f (at_span f (l.start)) (λ span. done f (tree.the_type span (tree.Func tree.no_gens (types l.types) r))))))

  pub listed_type_beside : (l : Listed) → Beside f lo hi hi (code.listed_type f.low low l) (code.listed_type f.high high l)
  unfolding code.listed_type
  listed_type_beside l = choose f (sees s.Arrow) ((function_behind_beside l)) (only_in_parens_beside (in_parens l))

  pub basic_beside : Beside f lo hi hi (code.basic f.low low None) (code.basic f.high high None)
  unfolding code.basic
  basic_beside = choose f (sees s.LeftParen) (both f (within f hi hi the_same floor listed_beside) listed_type_beside) form_beside

  pub basic_begun_beside : (l : Listed) → Beside f lo hi hi (code.basic f.low low (Some l)) (code.basic f.high high (Some l))
  unfolding code.basic
  basic_begun_beside l = listed_type_beside l

  pub mark_beside : (from : ℕ) (t : TypeSyntax) → Beside f lo (top f) (top f) (code.mark f.low low from t) (code.mark f.high high from t)
  unfolding code.mark
  mark_beside from t =
      both f (token_low f (floor_top f) (ceil_top f) s.Question) (λ _. both f (raises f) (λ _. both f (at_span f from) (λ span. done f (tree.the_type span (tree.Optional t)))))

  pub all_marks_beside : (from : ℕ) (t : TypeSyntax) → Beside f lo (top f) (top f) (code.all_marks f.low low from t) (code.all_marks f.high high from t)
  unfolding code.all_marks
  all_marks_beside from t = steps f lo (top f) goes_marks (code.mark f.low low from) (code.mark f.high high from) (mark_beside from) t

  pub marks_beside : (from : ℕ) (t : TypeSyntax) → Beside f lo hi hi (code.marks f.low low from t) (code.marks f.high high from t)
  unfolding code.marks
  marks_beside from t =
      with_level f (λ outer. code.all_marks f.low low from t >>= (λ u. set_level outer >>= (λ _. pure u))) (λ outer. code.all_marks f.high high from t >>= (λ u. set_level outer >>= (λ _. pure u)))
      (λ outer a b. within f hi hi ceil the_same (both f (all_marks_beside from t) (λ u. both f (to_level f hi outer a b) (λ _. done f u))))
      (λ p b. (locals.marks_local f.low low (w f) held.low_local from t).one p b)
      (λ p b. (locals.marks_local f.high high (w f) held.high_local from t).one p b)

  pub option_beside : Beside f lo hi hi (code.option f.low low None) (code.option f.high high None)
  unfolding code.option
  option_beside = (both f (given f (begin_of None)) (λ from. both f basic_beside (λ t. marks_beside from t)))

  pub option_begun_beside : (l : Listed) → Beside f lo hi hi (code.option f.low low (Some l)) (code.option f.high high (Some l))
  unfolding code.option
  option_begun_beside l = (both f (given f (begin_of (Some l))) (λ from. both f (basic_begun_beside l) (λ t. marks_beside from t)))

  pub another_option_beside : (sign : Symbol) (found : List TypeSyntax) → Beside f lo hi hi (code.another_option f.low low sign found) (code.another_option f.high high sign found)
  unfolding code.another_option
  another_option_beside sign found = (both f (token f floor ceil sign) (λ _. both f option_beside (λ t. done f (found ++ t ∷ []))))

  pub options_from_beside : (sign : Symbol) (found : List TypeSyntax) → Beside f lo hi hi (code.options_from f.low low sign found) (code.options_from f.high high sign found)
  unfolding code.options_from
  options_from_beside sign found = steps f lo hi (goes_options sign) (code.another_option f.low low sign) (code.another_option f.high high sign) (another_option_beside sign) found

  pub options_beside : (sign : Symbol) (first : TypeSyntax) → Beside f lo hi hi (code.options f.low low sign first) (code.options f.high high sign first)
  unfolding code.options
  options_beside sign first = options_from_beside sign (first ∷ [])

  pub union_beside : (from : ℕ) (first : TypeSyntax) → Beside f lo hi hi (code.union_behind f.low low from first) (code.union_behind f.high high from first)
  unfolding code.union_behind
  union_beside from first = (both f (options_beside s.Pipe first) (λ ts. both f (at_span f from) (λ span. done f (tree.the_type span (tree.Union (types ts))))))

  pub meet_beside : (from : ℕ) (first : TypeSyntax) → Beside f lo hi hi (code.meet_behind f.low low from first) (code.meet_behind f.high high from first)
  unfolding code.meet_behind
  meet_beside from first = (both f (options_beside s.Ampersand first) (λ ts. both f (at_span f from) (λ span. done f (tree.the_type span (tree.Meet (types ts))))))

  pub joined_beside : (from : ℕ) (first : TypeSyntax) → Beside f lo hi hi (code.joined f.low low from first) (code.joined f.high high from first)
  unfolding code.joined
  joined_beside from first =
      choose f (sees s.Pipe) (union_beside from first) (choose f (sees s.Ampersand) (meet_beside from first) (done f first))

  pub bar_beside : (begun : Option Listed) → Beside f lo hi hi (code.bar f.low low begun) (code.bar f.high high begun)
  unfolding code.bar
  bar_beside (Some l) = done f (tt {0})
  bar_beside None =
      choose f (λ p. sees s.Pipe p || sees s.Ampersand p) ((both f (any f floor ceil) (λ _. done f (tt {0})))) (done f (tt {0}))

  pub type_inside_beside : Beside f lo hi hi (code.type_inside f.low low None) (code.type_inside f.high high None)
  unfolding code.type_inside
  type_inside_beside = (both f (bar_beside None) (λ _. both f (given f (begin_of None)) (λ from. both f option_beside (λ first. joined_beside from first))))

  pub type_begun_beside : (l : Listed) → Beside f lo hi hi (code.type_inside f.low low (Some l)) (code.type_inside f.high high (Some l))
  unfolding code.type_inside
  type_begun_beside l =
      (both f (bar_beside (Some l)) (λ _. both f (given f (begin_of (Some l))) (λ from. both f (option_begun_beside l) (λ first. joined_beside from first))))
