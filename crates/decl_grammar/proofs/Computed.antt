-- What the parser reads of a few tokens, computed.
use Rattle.std.proofs.Common.{◌≡◌, ◌+◌, ℕ, List, [], Ok, Err, arith, leb-true, sym, ◌∙◌}
use Rattle.luau_lex.specs.Tokens.{Tok}
use Rattle.luau_grammar.specs.declared.error.ParseError.{ParseError}
use Rattle.luau_grammar.specs.Places.{Place}
use Rattle.luau_grammar.specs.Modules.{before, up_to}
use Rattle.luau_grammar.specs.Reading.{Setting, Outcome}
use Rattle.luau_grammar.specs.ReadTypes as types
use Rattle.luau_grammar.proofs.Agreement.{Bounded}
use Rattle.luau_grammar.proofs.Computed.{every_parser}
use Rattle.decl_grammar.specs.Declarations.{Declaration}
use Rattle.decl_grammar.specs.Files.{IsFile}
use Rattle.decl_grammar.specs.ReadFiles.{file_with}
use Rattle.decl_grammar.specs.ReadFiles as files
use Rattle.decl_grammar.proofs.FileFamilies.{read_is_file, file_is_read}

-- all that the samples need
unfoldable pub every_file_parser : Unit {0}
unfolding every_parser types.variadic types.generic_pack types.tail types.member_name types.member types.another_member types.members_from types.members types.maybe_members types.listed types.listed_type types.function_behind types.mark types.after_list types.result files.gathered files.word files.mark_named files.mark files.marks files.path_behind files.path files.one_type files.types_from files.types files.type_list files.results_behind files.results files.declaration files.file_with
every_file_parser = tt

-- tokens at levels up to one, and arguments anywhere
abbrev pub levels : ℕ → Setting
levels level = record { rules = up_to level; limit = level; len = 0 }

levels_bounded : (level : ℕ) → Bounded (levels level)
levels_bounded level t at h = leb-true at level h

pub are_declared : (level : ℕ) (ts : List Tok) (ds : List Declaration) (last : ℕ)
    → file_with (levels level) (level + 2) (before ts) ≡ Ok (ds, record { ahead = []; last = last; level = 0 }) → IsFile (up_to level) ts ds
are_declared level ts ds last e = read_is_file (levels level) (levels_bounded level) (level + 2) ts ds (record { ahead = []; last = last; level = 0 }) e

refused : (o : Outcome (List Declaration)) (x : List Declaration × Place) (e : ParseError) → o ≡ Ok x → o ≡ Err e → ⊥
refused o x e h k = absurd (let both : Ok x ≡ Err e = sym h ∙ k in cc)

pub is_no_file : (level : ℕ) (ts : List Tok) (e : ParseError) → file_with (levels level) (level + 2) (before ts) ≡ Err e
    → (ds : List Declaration) → IsFile (up_to level) ts ds → ⊥
is_no_file level ts e k ds h =
    let read = file_is_read (levels level) (levels_bounded level) (level + 2) (omega arith) ts ds h in
    refused (file_with (levels level) (level + 2) (before ts)) (ds, read.0) e read.1 k
