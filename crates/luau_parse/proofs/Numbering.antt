-- What is said of the tree without numbers, of the tree with its numbers.
use Rattle.std.proofs.Common.{◌≡◌, ◌≢◌, ℕ, List, sym, ap, ◌∙◌}
use Rattle.std.specs.Prelude.{Result, Ok, Err, IfOk, IfErr}
use Rattle.luau_tree.specs.View.{view_module}
use Rattle.luau_tree.specs.declared.tree.Module.{Module}
use Rattle.luau_grammar.specs.declared.error.ParseError.{ParseError}
use Rattle.luau_grammar.specs.declared.error.ParseError.TheVariants.{NoMemory}
use Rattle.tree_numbers.specs.Numbered.{numbered}
use Rattle.module_reader.specs.Parsed.{HasBareTree}
use Rattle.luau_parse.specs.Parsed.{HasTree}
use Rattle.module_reader.specs.Texts.{bare_tree_of}
use Rattle.luau_parse.specs.Texts.{tree_of, with_numbers}

pub tree_is_numbered : (text : List ℕ) (bare : Module) (r : Result Module ParseError) → HasBareTree text (view_module bare)
    → IfOk r (λ m. view_module m ≡ numbered (view_module bare)) → IfOk r (λ m. HasTree text (view_module m))
tree_is_numbered text bare (Ok m) h e = (view_module bare, h, e)
tree_is_numbered text bare (Err fault) h e = tt

pub computed_is_numbered : (text : List ℕ) (bare : Module) (r : Result Module ParseError) → bare_tree_of text ≡ Ok (view_module bare)
    → IfOk r (λ m. view_module m ≡ numbered (view_module bare)) → IfOk r (λ m. tree_of text ≡ Ok (view_module m))
computed_is_numbered text bare (Ok m) h e = ap with_numbers h ∙ ap Ok (sym e)
computed_is_numbered text bare (Err fault) h e = tt

-- a fault that is want of memory is no other
pub no_other : (A : ParseError → Type 0) (r : Result Module ParseError) → IfErr r (λ e. e ≡ NoMemory) → IfErr r (λ e. e ≢ NoMemory → A e)
no_other A (Ok m) h = tt
no_other A (Err fault) h = λ ne. absurd (ne h)
