-- The tree of a list of tokens is what the parser reads, and there is at most one.
use Rattle.std.proofs.Common.{◌≡◌, ℕ, suc, ◌+◌, ◌≤◌, Bool, true, false, not, ◌&&◌, cond, bytes_eq, List, [], ◌∷◌, Ok, Err, refl, sym, ◌∙◌, ap, arith}
use Rattle.luau_tree.specs.Tree.{Block}
use Rattle.luau_lex.specs.Tokens.{Tok}
use Rattle.luau_lex.specs.declared.token.Kind.{Kind}
use Rattle.luau_lex.specs.declared.token.Kind.TheVariants as kind
use Rattle.luau_grammar.specs.declared.symbol.Symbol.{Symbol}
use Rattle.luau_grammar.specs.declared.symbol.Symbol.TheVariants as s
use Rattle.luau_grammar.specs.Symbols.{same, look_up, words, signs, symbol_by, symbol_of}
use Rattle.luau_grammar.specs.Places.{Place, first_symbol, symbol, sees}
use Rattle.luau_grammar.specs.Modules.{phrases, before, IsBare}
use Rattle.luau_grammar.specs.Reading.{Setting, Outcome}
use Rattle.luau_grammar.specs.ReadModules.{module_with}
use Rattle.luau_grammar.proofs.Agreement.{Bounded}
use Rattle.luau_grammar.proofs.Primitives.{Reads, reads_ok, reads_err, reads_if, reads_then, bind_by}
use Rattle.luau_grammar.proofs.TakenTokens.{yes_branch}
use Rattle.luau_grammar.proofs.Depth.{SoundFamilies, CompleteFamilies, sound_at, complete_at}

-- no entry of a table is the end of the text
abbrev no_stop : List (List ℕ × Symbol) → Bool
no_stop [] = true
no_stop (e ∷ es) = not (same e.1 s.Stop) && no_stop es

both : (x y : Bool) → (not x && y) ≡ true → (x ≡ false) × (y ≡ true)
both false true h = (refl, refl)
both false false h = absurd (cc)
both true y h = absurd (cc)

stop_of : (b : Bool) (x y : Symbol) → same x s.Stop ≡ false → same y s.Stop ≡ false → same (cond b x y) s.Stop ≡ false
stop_of true x y h k = h
stop_of false x y h k = k

not_found : (es : List (List ℕ × Symbol)) (bytes : List ℕ) → no_stop es ≡ true → same (look_up es bytes) s.Stop ≡ false
unfolding same
not_found [] bytes h = refl
not_found (e ∷ es) bytes h =
    let parts = both (same e.1 s.Stop) (no_stop es) h in
    stop_of (bytes_eq bytes e.0) e.1 (look_up es bytes) parts.0 (not_found es bytes parts.1)

no_word : no_stop words ≡ true
unfolding same
no_word = refl

no_sign : no_stop signs ≡ true
unfolding same
no_sign = refl

not_stop : (k : Kind) (bytes : List ℕ) → same (symbol_by k bytes) s.Stop ≡ false
unfolding same
not_stop kind.Name bytes = refl
not_stop kind.Word bytes = not_found words bytes no_word
not_stop kind.Numeral bytes = refl
not_stop kind.Quoted bytes = refl
not_stop kind.Long bytes = refl
not_stop kind.Whole bytes = refl
not_stop kind.Begin bytes = refl
not_stop kind.Mid bytes = refl
not_stop kind.End bytes = refl
not_stop kind.Sign bytes = not_found signs bytes no_sign

stops : (ts : List Tok) → same (first_symbol ts) s.Stop ≡ true → ts ≡ []
unfolding symbol_of
stops [] h = refl
stops (t ∷ ts) h = absurd (let e : true ≡ false = sym h ∙ not_stop t.kind t.bytes in cc)

-- no token is the end of the text
pub at_end : (p : Place) → sees s.Stop p ≡ true → p.ahead ≡ []
unfolding sees symbol
at_end p h = stops p.ahead h

pub end_seen : (p : Place) → p.ahead ≡ [] → sees s.Stop p ≡ true
unfolding sees symbol same
end_seen p e = ap (λ ts. same (first_symbol ts) s.Stop) e

module_holds : (set : Setting) → SoundFamilies set → (deep : ℕ) (p : Place)
    → Reads (λ q b. (phrases set.rules (suc deep)).block p q b × (q.ahead ≡ [])) (module_with set deep p)
unfolding module_with
module_holds set all deep p =
    reads_then ((sound_at set all deep).block p) (λ q b h. reads_if (sees s.Stop q) (λ e. reads_ok _ (h, at_end q e)) (λ _. reads_err _))

-- what is read is the tree
pub read_is_bare : (set : Setting) → SoundFamilies set → (deep : ℕ) (ts : List Tok) (b : Block) (q : Place)
    → module_with set deep (before ts) ≡ Ok (b, q) → IsBare set.rules ts b
read_is_bare set all deep ts b q e =
    let h = module_holds set all deep (before ts) q b e in
    (suc deep, q, h.0, h.1)

-- the tree is read
pub bare_is_read : (set : Setting) → Bounded set → CompleteFamilies set → (deep : ℕ) → set.limit + 2 ≤ deep
    → (ts : List Tok) (b : Block) → (h : IsBare set.rules ts b) → module_with set deep (before ts) ≡ Ok (b, h.1)
unfolding module_with
bare_is_read set bounded all deep e ts b h =
    let r = (complete_at set bounded all deep h.0 0 (omega arith)).block (before ts) h.1 b (omega arith) (omega arith, h.2) in
    bind_by _ _ r.0 (yes_branch _ (end_seen h.1 h.3) refl)

read_or : {A : Type 0} → A × Place → Outcome A → A × Place
read_or d (Ok x) = x
read_or d (Err e) = d

one_read : {A : Type 0} (x y : A × Place) (o : Outcome A) → o ≡ Ok x → o ≡ Ok y → x ≡ y
unfolding read_or
one_read x y o d e = ap (read_or x) (sym d ∙ e)

-- at most one tree
pub one_tree : (set : Setting) → Bounded set → CompleteFamilies set → (ts : List Tok) (b c : Block)
    → IsBare set.rules ts b → IsBare set.rules ts c → b ≡ c
one_tree set bounded all ts b c h k =
    let e = bare_is_read set bounded all (set.limit + 2) (omega arith) ts b h in
    let f = bare_is_read set bounded all (set.limit + 2) (omega arith) ts c k in
    ap (λ z. z.0) (one_read (b, h.1) (c, k.1) (module_with set (set.limit + 2) (before ts)) e f)
