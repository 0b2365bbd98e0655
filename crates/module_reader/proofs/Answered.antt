-- Where the tokens of a text have no tree, by what the parser of modules gives and by the grammar.
use Rattle.std.proofs.Common.{◌≡◌, ◌≢◌, ◌⊎◌, inr, ℕ, List}
use Rattle.std.specs.Prelude.{None, Result, Ok, Err, IfErr}
use Rattle.luau_tree.specs.Tree.{Block}
use Rattle.luau_tree.specs.declared.tree.Module.{Module}
use Rattle.luau_lex.specs.Tokens.{Tok}
use Rattle.luau_lex.specs.Lexed.{Lexed}
use Rattle.luau_grammar.specs.declared.error.ParseError.{ParseError}
use Rattle.luau_grammar.specs.declared.error.ParseError.TheVariants.{NoMemory}
use Rattle.luau_grammar.specs.Laws as laws
use Rattle.luau_grammar.specs.Modules.{IsBare, strict}
use Rattle.module_reader.specs.Parsed.{HasNoTree, IsLexFault, IsRead}
use Rattle.module_reader.specs.Texts.{read_module}

clash : {A : Type 0} {B : Type 0} (x : A) (e : ParseError) (o : Result A ParseError) → o ≡ Ok x → o ≡ Err e → B
clash x e o p q = absurd (cc)

pub fault_is_answered : ((text : List ℕ) (ts : List Tok) (b : Block) → IsBare (strict text) ts b → laws.IsRead text ts b)
    → (text : List ℕ) (ts : List Tok) (r : Result Module ParseError) → Lexed text ts None → IsRead (read_module text ts) r
    → IfErr r (λ e. e ≢ NoMemory → IsLexFault text e ⊎ HasNoTree text)
fault_is_answered all text ts (Ok m) l r = tt
fault_is_answered all text ts (Err e) l r =
    λ ne. inr (ts, l, λ b bare. let read = all text ts b bare in clash (b, read.0) e (read_module text ts) read.1 (r ne))
