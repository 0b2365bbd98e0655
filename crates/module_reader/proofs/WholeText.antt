-- A module ends where its text does.
use Rattle.std.proofs.Common.{◌≡◌, ℕ, true, refl}
use Rattle.std.specs.Prelude.{Ok}
use Rattle.luau_tree.specs.Tree.{Block}
use Rattle.luau_grammar.specs.declared.symbol.Symbol.TheVariants as s
use Rattle.luau_grammar.specs.Places.{Place, sees}
use Rattle.luau_grammar.specs.Reading.{Setting}
use Rattle.luau_grammar.specs.ReadPhrases as phrases
use Rattle.luau_grammar.specs.ReadModules.{readers, module_with}

pub ends : (set : Setting) (deep : ℕ) (p q : Place) (b : Block) → phrases.block set (readers set deep) p ≡ Ok (b, q) → sees s.Stop q ≡ true
    → module_with set deep p ≡ Ok (b, q)
unfolding module_with
ends set deep p q b h e = rw h (rw e refl)
