-- What the parser reads of a few tokens, computed.
use Rattle.std.proofs.Common.{◌≡◌, ℕ, List, [], Ok, Err, arith, leb-true, sym, ◌∙◌}
use Rattle.luau_tree.specs.Tree.{Block}
use Rattle.luau_lex.specs.Tokens.{Tok}
use Rattle.luau_grammar.specs.declared.error.ParseError.{ParseError}
use Rattle.luau_grammar.specs.Places.{Place}
use Rattle.luau_grammar.specs.Modules.{IsBare, before, up_to, max_level, strict}
use Rattle.luau_grammar.specs.Reading.{Setting, Outcome, strictly}
use Rattle.luau_grammar.specs.ReadModules.{module_with, max_depth}
use Rattle.luau_grammar.proofs.Agreement.{Bounded}
use Rattle.luau_grammar.proofs.Families.{read_is_bare, bare_is_read}
use Rattle.luau_grammar.specs.Symbols as symbols
use Rattle.luau_grammar.specs.Places as places
use Rattle.luau_grammar.specs.Reading as reading
use Rattle.luau_grammar.specs.ReadPhrases as phrases
use Rattle.luau_grammar.specs.ReadTypes as types
use Rattle.luau_grammar.specs.ReadExpressions as values
use Rattle.luau_grammar.specs.ReadStatements as statements
use Rattle.luau_grammar.specs.ReadModules as modules

-- Each of these opens some parsers, so that what they read is computed.
unfoldable pub open_tokens : Unit {0}
unfolding symbols.same symbols.symbol_of places.symbol places.symbol_behind places.sees places.sees_behind places.sees_word places.start_of
open_tokens = tt

unfoldable pub open_steps : Unit {0}
unfolding reading.refusal reading.next reading.expect reading.eat reading.name reading.open_arguments reading.raise reading.phrase reading.repeats reading.separated_from reading.separated
open_steps = tt

unfoldable pub open_types : Unit {0}
unfolding types.bar types.basic types.form types.name_form types.named types.named_behind types.undotted types.type_arguments types.marks types.all_marks types.option types.joined types.type_inside types.generics
open_types = tt

unfoldable pub open_suffixes : Unit {0}
unfolding reading.deeper values.expressions values.in_parens values.list_arguments values.arguments values.name_expression values.primary values.paren values.index values.call values.suffix values.prefix
open_suffixes = tt

unfoldable pub open_operations : Unit {0}
unfolding values.right_least values.tighter values.form values.simple values.asserted values.assertion values.unary values.operand values.binary values.climb_from values.climb values.operation values.expression_inside
open_operations = tt

unfoldable pub open_statements : Unit {0}
unfolding statements.own_prefix statements.variable statements.assign statements.compound statements.behind_prefix statements.prefix_statement statements.word_statement statements.name_statement statements.type_statement statements.alias statements.maybe_expressions statements.return_statement statements.statement statements.another_statement statements.block_inside
open_statements = tt

-- all that the samples need
unfoldable pub every_parser : Unit {0}
unfolding open_tokens open_steps open_types open_suffixes open_operations open_statements phrases.expression phrases.typ phrases.block modules.too_deep modules.readers modules.module_with
every_parser = tt

-- tokens at levels up to the program's, and arguments anywhere
abbrev pub lenient : Setting
lenient = record { rules = up_to max_level; limit = max_level; len = 0 }

lenient_bounded : Bounded lenient
lenient_bounded t at h = leb-true at max_level h

strict_bounded : (text : List ℕ) → Bounded (strictly text)
strict_bounded text t at h = leb-true at max_level h

pub has_tree : (ts : List Tok) (b : Block) (last : ℕ)
    → module_with lenient max_depth (before ts) ≡ Ok (b, record { ahead = []; last = last; level = 0 }) → IsBare (up_to max_level) ts b
has_tree ts b last e = read_is_bare lenient lenient_bounded max_depth ts b (record { ahead = []; last = last; level = 0 }) e

refused : (o : Outcome Block) (x : Block × Place) (e : ParseError) → o ≡ Ok x → o ≡ Err e → ⊥
refused o x e h k = absurd (let both : Ok x ≡ Err e = sym h ∙ k in cc)

pub has_no_tree : (ts : List Tok) (e : ParseError) → module_with lenient max_depth (before ts) ≡ Err e → (b : Block) → IsBare (up_to max_level) ts b → ⊥
has_no_tree ts e k b h =
    let read = bare_is_read lenient lenient_bounded max_depth (omega arith) ts b h in
    refused (module_with lenient max_depth (before ts)) (b, read.0) e read.1 k

pub has_no_strict_tree : (text : List ℕ) (ts : List Tok) (e : ParseError) → module_with (strictly text) max_depth (before ts) ≡ Err e
    → (b : Block) → IsBare (strict text) ts b → ⊥
has_no_strict_tree text ts e k b h =
    let read = bare_is_read (strictly text) (strict_bounded text) max_depth (omega arith) ts b h in
    refused (module_with (strictly text) max_depth (before ts)) (b, read.0) e read.1 k
