-- The parsers of types depend on what they take.
use Rattle.std.proofs.Common.{ℕ, Bool, true, false, not, ◌||◌, List, [], ◌∷◌, ◌++◌, refl, codes, Option, Some, None, is_some}
use Rattle.luau_tree.specs.declared.names.Access.TheVariants.{Both, Read, Write}
use Rattle.luau_tree.specs.Tree.{TypeSyntax, TypeKind, Expr, Block}
use Rattle.luau_tree.specs.Tree as tree
use Rattle.luau_tree.specs.View.{types, gens, props}
use Rattle.luau_grammar.specs.declared.symbol.Symbol.{Symbol}
use Rattle.luau_grammar.specs.declared.symbol.Symbol.TheVariants as s
use Rattle.luau_grammar.specs.Places.{symbol}
use Rattle.luau_grammar.specs.Phrases.{Listed, in_parens}
use Rattle.luau_grammar.specs.Lists.{sees_separator}
use Rattle.luau_grammar.specs.Types.{sees_access, begins_property, sees_typeof, begins_tail, is_type_front, pack_of, begins_named, begin_of, goes_on}
use Rattle.luau_grammar.specs.Expressions as expressions
use Rattle.luau_grammar.specs.Statements as statements
use Rattle.luau_grammar.specs.Reading.{Setting, Parser, Readers}
use Rattle.luau_grammar.specs.ReadPhrases as phrases
use Rattle.luau_grammar.specs.ReadTypes as code
use Rattle.luau_grammar.specs.ReadTypes.{Members, Braced, goes_braced, goes_members, goes_marks, goes_options}
use Rattle.grammar_faults.proofs.Local.{Tails, Local, Peeks, both, choose, least, done, given, at_start, at_last, at_here, at_span, to_level, peeks_sees, peeks_sees_behind, peeks_word, peeks_const, peeks_of, peeks_and, peeks_or, peeks_symbol, peeks_start}
use Rattle.grammar_faults.proofs.LocalCases.{by_symbol}
use Rattle.grammar_faults.proofs.LocalTokens.{refuses, any, token, eaten, a_name, a_string, raises, phrased}
use Rattle.grammar_faults.proofs.LocalSteps.{steps, in_list}

-- the parsers of phrases that hold one another depend on what they take
pub record LocalReaders (w : Tails) (r : Readers) : Type 0 where
  pub exp : Local w 1 (r.exp)
  pub typ : Local w 1 (r.typ None)
  pub begun : (l : Listed) → Local w 0 (r.typ (Some l))
  pub block : Local w 0 (r.block)

module _ {w : Tails} where
  peeks_goes_on : Peeks w goes_on
  peeks_goes_on = peeks_or (peeks_sees s.Question) (peeks_or (peeks_sees s.Pipe) (peeks_sees s.Ampersand))

  peeks_front : (l : Listed) → Peeks w (is_type_front l)
  peeks_front l = peeks_or (peeks_sees s.Arrow) (peeks_and (peeks_const (is_some (in_parens l))) peeks_goes_on)

  pub peeks_named : Peeks w begins_named
  peeks_named = peeks_and (peeks_sees s.Name) (peeks_sees_behind s.Colon)

  pub peeks_tail : Peeks w begins_tail
  peeks_tail = peeks_or (peeks_sees s.Dots) (peeks_and (peeks_sees s.Name) (peeks_sees_behind s.Dots))

  peeks_access : (word : List ℕ) → Peeks w (sees_access word)
  peeks_access word = peeks_and (peeks_word word) (peeks_or (peeks_sees_behind s.Name) (peeks_sees_behind s.LeftBracket))

  peeks_property : Peeks w begins_property
  peeks_property =
      peeks_or (peeks_or (peeks_sees s.LeftBracket) (peeks_and (peeks_sees s.Name) (peeks_sees_behind s.Colon)))
      (peeks_or (peeks_access (codes "read")) (peeks_access (codes "write")))

  peeks_typeof : Peeks w sees_typeof
  peeks_typeof = peeks_and (peeks_word (codes "typeof")) (peeks_sees_behind s.LeftParen)

  peeks_separator : Peeks w sees_separator
  peeks_separator = peeks_or (peeks_sees s.Comma) (peeks_sees s.Semicolon)

  peeks_braced : {A : Type 0} (found : Braced A) → Peeks w (goes_braced found)
  peeks_braced found = peeks_and (peeks_const found.open_ended) (peeks_of not (peeks_sees s.RightBrace))

  peeks_members : (found : Members) → Peeks w (goes_members found)
  peeks_members found = peeks_and (peeks_const (not found.tailed)) (peeks_sees s.Comma)

module _ (set : Setting) {w : Tails} where
  pub separator_local : Local w 0 (code.separator set)
  unfolding code.separator
  separator_local = choose peeks_separator (least 0 refl (both (any set) (λ _. done true))) (done false)

  pub one_braced_local : {A : Type 0} {item : Parser A} → Local w 1 item → (found : Braced A) → Local w 1 (code.one_braced set item found)
  one_braced_local h found =
      least 1 refl (both h (λ x. both separator_local (λ more. done (record { items = found.items ++ x ∷ []; open_ended = more }))))

  pub braced_local : {A : Type 0} {item : Parser A} → Local w 1 item → Local w 0 (code.braced set item)
  unfolding code.braced
  braced_local {A = A} {item = item} h =
      steps set goes_braced (code.one_braced set item) peeks_braced (one_braced_local h) (record { items = []; open_ended = true })

module _ (set : Setting) (inner : Readers) (w : Tails) (held : LocalReaders w inner) where
  pub exp_local : Local w 1 (phrases.expression set inner)
  unfolding phrases.expression
  exp_local = phrased set phrases.may_begin_expression (peeks_of expressions.begins peeks_symbol) (held.exp)

  pub typ_local : Local w 1 (phrases.typ set inner None)
  unfolding phrases.typ
  typ_local = phrased set (phrases.may_begin_type None) (peeks_of phrases.begins_type peeks_symbol) (held.typ)

  pub begun_local : (l : Listed) → Local w 0 (phrases.typ set inner (Some l))
  unfolding phrases.typ
  begun_local l = phrased set (phrases.may_begin_type (Some l)) (peeks_const true) (held.begun l)

  pub block_local : Local w 0 (phrases.block set inner)
  unfolding phrases.block
  block_local = phrased set phrases.may_begin_block (peeks_of statements.begins peeks_symbol) (held.block)

  pub variadic_local : Local w 1 (code.variadic set inner)
  unfolding code.variadic
  variadic_local =
      least 1 refl (both at_start (λ from. both (token set s.Dots) (λ _. both typ_local (λ t. both (at_span from) (λ span. done (tree.the_type span (tree.Variadic t)))))))

  pub generic_pack_local : Local w 1 (code.generic_pack set inner)
  unfolding code.generic_pack
  generic_pack_local =
      least 1 refl (both at_start (λ from. both (a_name set) (λ name. both (token set s.Dots) (λ _. both (at_span from) (λ span. done (tree.the_type span (tree.GenericPack name)))))))

  pub tail_local : Local w 1 (code.tail set inner)
  unfolding code.tail
  tail_local = choose (peeks_sees s.Dots) variadic_local generic_pack_local

  pub member_name_local : Local w 0 (code.member_name set inner)
  unfolding code.member_name
  member_name_local = choose peeks_named (least 0 refl (both (both (a_name set) (λ _. token set s.Colon)) (λ _. done true))) (done false)

  pub member_local : (found : Members) → Local w 1 (code.member set inner found)
  unfolding code.member
  member_local found =
      choose peeks_tail (least 1 refl (both tail_local (λ t. done (record { types = found.types ++ t ∷ []; named = found.named; tailed = true }))))
      (least 1 refl (both member_name_local (λ here. both typ_local (λ t. done (record { types = found.types ++ t ∷ []; named = found.named || here; tailed = false })))))

  pub another_member_local : (found : Members) → Local w 1 (code.another_member set inner found)
  unfolding code.another_member
  another_member_local found = least 1 refl (both (token set s.Comma) (λ _. member_local found))

  pub members_from_local : (found : Members) → Local w 0 (code.members_from set inner found)
  unfolding code.members_from
  members_from_local found = steps set goes_members (code.another_member set inner) peeks_members another_member_local found

  pub members_local : Local w 1 (code.members set inner)
  unfolding code.members
  members_local = least 1 refl (both (member_local (record { types = []; named = false; tailed = false })) members_from_local)

  pub maybe_members_local : Local w 0 (code.maybe_members set inner)
  unfolding code.maybe_members
  maybe_members_local = choose (peeks_sees s.RightParen) (done (record { types = []; named = false; tailed = false })) (least 0 refl members_local)

  pub listed_local : Local w 1 (code.listed set inner)
  unfolding code.listed
  listed_local =
      least 1 refl (both at_start (λ from. both (token set s.LeftParen) (λ _. both maybe_members_local (λ found. both (token set s.RightParen) (λ _. both at_last (λ to.
      done (record { start = from; end = to; types = found.types; named = found.named; tailed = found.tailed })))))))

  pub after_list_local : (l : Listed) → Local w 0 (code.after_list set inner l)
  unfolding code.after_list
  after_list_local l = choose (peeks_front l) (begun_local l) (done (pack_of l))

  pub result_local : Local w 1 (code.result set inner)
  unfolding code.result
  result_local =
      choose (peeks_sees s.LeftParen) (least 1 refl (both listed_local after_list_local)) (choose peeks_tail tail_local typ_local)

  pub maybe_results_local : Local w 0 (code.maybe_results set inner)
  unfolding code.maybe_results
  maybe_results_local = choose (peeks_sees s.Greater) (done tree.no_types) (least 0 refl (both (in_list set result_local) (λ ts. done (types ts))))

  pub type_arguments_local : Local w 0 (code.type_arguments set inner)
  unfolding code.type_arguments
  type_arguments_local =
      choose (peeks_sees s.Less) (least 0 refl (both (token set s.Less) (λ _. both maybe_results_local (λ ts. both (token set s.Greater) (λ _. done ts))))) (done tree.no_types)

  pub default_local : (may : Bool) → Local w 0 (code.default set inner may)
  unfolding code.default
  default_local may =
      choose (peeks_and (peeks_const may) (peeks_sees s.Assign))
      (least 0 refl (both (token set s.Assign) (λ _. both result_local (λ t. done (tree.a_type t))))) (done tree.no_type)

  pub generic_local : (may : Bool) → Local w 1 (code.generic set inner may)
  unfolding code.generic
  generic_local may =
      least 1 refl (both at_start (λ from. both (a_name set) (λ name. both (at_span from) (λ span. both (eaten set s.Dots) (λ pack. both (default_local may) (λ d.
      done (tree.the_gen name span pack d)))))))

  pub generics_behind_local : (may : Bool) → Local w 1 (code.generics_behind set inner may)
  unfolding code.generics_behind
  generics_behind_local may = least 1 refl (both (in_list set (generic_local may)) (λ gs. both (token set s.Greater) (λ _. done (gens gs))))

  pub generics_local : (may : Bool) → Local w 0 (code.generics set inner may)
  unfolding code.generics
  generics_local may = choose (peeks_sees s.Less) (least 0 refl (both (token set s.Less) (λ _. generics_behind_local may))) (done tree.no_gens)

  pub access_local : Local w 0 (code.access set inner)
  unfolding code.access
  access_local =
      choose (peeks_access (codes "read")) (least 0 refl (both (any set) (λ _. done Read)))
      (choose (peeks_access (codes "write")) (least 0 refl (both (any set) (λ _. done Write))) (done Both))

  pub indexer_local : Local w 1 (code.indexer set inner)
  unfolding code.indexer
  indexer_local =
      least 1 refl (both (token set s.LeftBracket) (λ _. both typ_local (λ t. both (token set s.RightBracket) (λ _. both (token set s.Colon) (λ _. done (tree.Indexer t))))))

  pub property_name_local : Local w 1 (code.property_name set inner)
  unfolding code.property_name
  property_name_local = least 1 refl (both (a_name set) (λ name. both (token set s.Colon) (λ _. done (tree.NameKey name))))

  pub key_local : Local w 1 (code.key set inner)
  unfolding code.key
  key_local = choose (peeks_sees s.LeftBracket) indexer_local property_name_local

  pub property_local : Local w 1 (code.property set inner)
  unfolding code.property
  property_local = least 1 refl (both access_local (λ how. both key_local (λ what. both typ_local (λ t. done (tree.the_prop how what t)))))

  pub array_local : (from : ℕ) → Local w 1 (code.array set inner from)
  unfolding code.array
  array_local from = least 1 refl (both typ_local (λ t. both (token set s.RightBrace) (λ _. both (at_span from) (λ span. done (tree.the_type span (tree.Array t))))))

  pub table_local : (from : ℕ) → Local w 1 (code.table set inner from)
  unfolding code.table
  table_local from =
      least 1 refl (both (braced_local set property_local) (λ found. both (token set s.RightBrace) (λ _. both (at_span from) (λ span. done (tree.the_type span (tree.TableType (props found.items)))))))

  pub table_or_array_local : Local w 1 (code.table_or_array set inner)
  unfolding code.table_or_array
  table_or_array_local =
      least 1 refl (both at_start (λ from. both (token set s.LeftBrace) (λ _. choose (peeks_or (peeks_sees s.RightBrace) peeks_property) (table_local from) (array_local from))))

  pub typeof_local : Local w 1 (code.typeof_form set inner)
  unfolding code.typeof_form
  typeof_local =
      least 1 refl (both at_start (λ from. both (token set s.Name) (λ _. both (token set s.LeftParen) (λ _. both exp_local (λ e. both (token set s.RightParen) (λ _. both (at_span from) (λ span.
      done (tree.the_type span (tree.Typeof e)))))))))

  pub dotted_local : (from : ℕ) (first : List ℕ) → Local w 1 (code.dotted set inner from first)
  unfolding code.dotted
  dotted_local from first =
      least 1 refl (both (token set s.Dot) (λ _. both (a_name set) (λ second. both type_arguments_local (λ args. both (at_span from) (λ span.
      done (tree.the_type span (tree.Named (Some first) second args)))))))

  pub undotted_local : (from : ℕ) (name : List ℕ) → Local w 0 (code.undotted set inner from name)
  unfolding code.undotted
  undotted_local from name =
      least 0 refl (both type_arguments_local (λ args. both (at_span from) (λ span. done (tree.the_type span (tree.Named None name args)))))

  pub named_behind_local : (from : ℕ) (first : List ℕ) → Local w 0 (code.named_behind set inner from first)
  unfolding code.named_behind
  named_behind_local from first = choose (peeks_sees s.Dot) (least 0 refl (dotted_local from first)) (undotted_local from first)

  pub named_local : Local w 1 (code.named set inner)
  unfolding code.named
  named_local = least 1 refl (both at_start (λ from. both (a_name set) (λ first. named_behind_local from first)))

  pub generic_function_local : Local w 1 (code.generic_function set inner)
  unfolding code.generic_function
  generic_function_local =
      least 1 refl (both at_start (λ from. both (generics_local false) (λ gs. both listed_local (λ l. both (token set s.Arrow) (λ _. both result_local (λ r. both (at_span from) (λ span.
      done (tree.the_type span (tree.Func gs (types l.types) r)))))))))

  pub word_local : (kind : TypeKind) → Local w 1 (code.word set inner kind)
  unfolding code.word
  word_local kind = least 1 refl (both at_start (λ from. both (any set) (λ _. both (at_span from) (λ span. done (tree.the_type span kind)))))

  pub literal_local : Local w 1 (code.literal set inner)
  unfolding code.literal
  literal_local = least 1 refl (both at_start (λ from. both (a_string set s.Text) (λ value. both (at_span from) (λ span. done (tree.the_type span (tree.StrType value))))))

  pub name_form_local : Local w 1 (code.name_form set inner)
  unfolding code.name_form
  name_form_local = choose peeks_typeof typeof_local named_local

  pub form_by_local : (x : Symbol) → Local w 1 (code.form_by set inner x)
  form_by_local s.Nil = word_local tree.NilType
  form_by_local s.True = word_local (tree.BoolType true)
  form_by_local s.False = word_local (tree.BoolType false)
  form_by_local s.Text = literal_local
  form_by_local s.Name = name_form_local
  form_by_local s.LeftBrace = table_or_array_local
  form_by_local s.Less = generic_function_local
  form_by_local _ = refuses set 1

  pub form_local : Local w 1 (code.form set inner)
  unfolding code.form
  form_local = by_symbol symbol (code.form_by set inner) peeks_symbol form_by_local

  pub only_in_parens_local : (o : Option TypeSyntax) → Local w 0 (code.only_in_parens set inner o)
  only_in_parens_local None = refuses set 0
  only_in_parens_local (Some t) = done t

  pub function_behind_local : (l : Listed) → Local w 1 (code.function_behind set inner l)
  unfolding code.function_behind
  function_behind_local l =
      least 1 refl (both (token set s.Arrow) (λ _. both result_local (λ r. both (at_span (l.start)) (λ span. done (tree.the_type span (tree.Func tree.no_gens (types l.types) r))))))

  pub listed_type_local : (l : Listed) → Local w 0 (code.listed_type set inner l)
  unfolding code.listed_type
  listed_type_local l = choose (peeks_sees s.Arrow) (least 0 refl (function_behind_local l)) (only_in_parens_local (in_parens l))

  pub basic_local : Local w 1 (code.basic set inner None)
  unfolding code.basic
  basic_local = choose (peeks_sees s.LeftParen) (least 1 refl (both listed_local listed_type_local)) form_local

  pub basic_begun_local : (l : Listed) → Local w 0 (code.basic set inner (Some l))
  unfolding code.basic
  basic_begun_local l = listed_type_local l

  pub mark_local : (from : ℕ) (t : TypeSyntax) → Local w 1 (code.mark set inner from t)
  unfolding code.mark
  mark_local from t = least 1 refl (both (token set s.Question) (λ _. both (raises set) (λ _. both (at_span from) (λ span. done (tree.the_type span (tree.Optional t))))))

  pub all_marks_local : (from : ℕ) (t : TypeSyntax) → Local w 0 (code.all_marks set inner from t)
  unfolding code.all_marks
  all_marks_local from t = steps set goes_marks (code.mark set inner from) (λ _. peeks_sees s.Question) (mark_local from) t

  pub marks_local : (from : ℕ) (t : TypeSyntax) → Local w 0 (code.marks set inner from t)
  unfolding code.marks
  marks_local from t = least 0 refl (both at_here (λ outer. both (all_marks_local from t) (λ u. both (to_level outer) (λ _. done u))))

  pub begin_local : (begun : Option Listed) → Peeks w (begin_of begun)
  begin_local None = peeks_start
  begin_local (Some l) = peeks_const l.start

  pub option_local : Local w 1 (code.option set inner None)
  unfolding code.option
  option_local = least 1 refl (both (given (begin_local None)) (λ from. both basic_local (λ t. marks_local from t)))

  pub option_begun_local : (l : Listed) → Local w 0 (code.option set inner (Some l))
  unfolding code.option
  option_begun_local l = least 0 refl (both (given (begin_local (Some l))) (λ from. both (basic_begun_local l) (λ t. marks_local from t)))

  pub another_option_local : (sign : Symbol) (found : List TypeSyntax) → Local w 1 (code.another_option set inner sign found)
  unfolding code.another_option
  another_option_local sign found = least 1 refl (both (token set sign) (λ _. both option_local (λ t. done (found ++ t ∷ []))))

  pub options_from_local : (sign : Symbol) (found : List TypeSyntax) → Local w 0 (code.options_from set inner sign found)
  unfolding code.options_from
  options_from_local sign found = steps set (goes_options sign) (code.another_option set inner sign) (λ _. peeks_sees sign) (another_option_local sign) found

  pub options_local : (sign : Symbol) (first : TypeSyntax) → Local w 0 (code.options set inner sign first)
  unfolding code.options
  options_local sign first = options_from_local sign (first ∷ [])

  pub union_local : (from : ℕ) (first : TypeSyntax) → Local w 0 (code.union_behind set inner from first)
  unfolding code.union_behind
  union_local from first = least 0 refl (both (options_local s.Pipe first) (λ ts. both (at_span from) (λ span. done (tree.the_type span (tree.Union (types ts))))))

  pub meet_local : (from : ℕ) (first : TypeSyntax) → Local w 0 (code.meet_behind set inner from first)
  unfolding code.meet_behind
  meet_local from first = least 0 refl (both (options_local s.Ampersand first) (λ ts. both (at_span from) (λ span. done (tree.the_type span (tree.Meet (types ts))))))

  pub joined_local : (from : ℕ) (first : TypeSyntax) → Local w 0 (code.joined set inner from first)
  unfolding code.joined
  joined_local from first =
      choose (peeks_sees s.Pipe) (union_local from first) (choose (peeks_sees s.Ampersand) (meet_local from first) (done first))

  pub bar_local : (begun : Option Listed) → Local w 0 (code.bar set inner begun)
  unfolding code.bar
  bar_local (Some l) = done (tt {0})
  bar_local None =
      choose (peeks_or (peeks_sees s.Pipe) (peeks_sees s.Ampersand)) (least 0 refl (both (any set) (λ _. done (tt {0})))) (done (tt {0}))

  pub type_inside_local : Local w 1 (code.type_inside set inner None)
  unfolding code.type_inside
  type_inside_local = least 1 refl (both (bar_local None) (λ _. both (given (begin_local None)) (λ from. both option_local (λ first. joined_local from first))))

  pub type_begun_local : (l : Listed) → Local w 0 (code.type_inside set inner (Some l))
  unfolding code.type_inside
  type_begun_local l =
      least 0 refl (both (bar_local (Some l)) (λ _. both (given (begin_local (Some l))) (λ from. both (option_begun_local l) (λ first. joined_local from first))))
