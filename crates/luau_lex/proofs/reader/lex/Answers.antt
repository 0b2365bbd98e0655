use Rattle.std.proofs.Common.{rules, ◌≡◌, ◌≢◌, ◌<◌, ℕ, Result, Err, IfErr, List, ◌∷◌, Bool, true, Some, None, nat_eq, Ok, refl, subst, [], map, length, ap, ◌∙◌, arith, length-drop, drop, zero-add}
use Rattle.luau_lex.specs.declared.token.LexError.{LexError}
use Rattle.luau_lex.specs.declared.token.LexError.TheVariants.{NoMemory}
use Rattle.luau_lex.specs.Token.{Tok, seen_token}
use Rattle.luau_lex.specs.Lexed.{Lexed}
use Rattle.luau_lex.specs.Computed.Tokens.{tokens_of}
use Rattle.luau_lex.specs.Computed.Reads.{HasTokens}
use Rattle.luau_lex.specs.Computed.Steps.{HasRead}
use Rattle.luau_lex.specs.declared.reader.Reader.{Reader}
use Rattle.std.proofs.lemmas.List.{append-nil}
use Rattle.luau_lex.proofs.GrammarLemmas.{start_has, has_then}
use Rattle.luau_lex.proofs.LawfulLemmas.{tokens_lawful, fault_lawful}
use Rattle.luau_lex.proofs.LawLemmas.{laws_determine}
use Rattle.luau_lex.proofs.WithinLemmas.{text_spans, text_apart, text_fault}
use Rattle.luau_lex.specs.Places.{fault_offset}
use Rattle.luau_lex.proofs.reader.lex.Goals as goal

-- nothing is found yet, and the first line is passed over where it is a comment
pub loop-reader-init : goal.loop-reader-init
loop-reader-init c =
    let text = c.args.text.now in
    let new = c.skip.new.self in
    let k = c.skip.ensures in
    let n = c.first_line_len.result in
    record {
      read = start_has text (map seen_token new.tokens.items) new.opens.items new.at new.rest.now
          (ap (map seen_token) (k.tokens ∙ c.new-2.ensures.items)) (k.opens ∙ c.new.ensures.items)
          (k.at ∙ zero-add n ∙ c.first_line_len.ensures.value)
          (k.rest ∙ ap (λ m. drop m text) c.first_line_len.ensures.value);
      small = omega (arith, k.at, ap length k.rest, length-drop n text, c.first_line_len.ensures.within, c.requires);
    }

-- a turn keeps what the reader will have found
pub loop-reader-preserved : goal.loop-reader-preserved
loop-reader-preserved c =
    let k = c.in_ok-read.ensures in
    let before = c.loop-reader.invariant in
    record {
      read = k.pieces c.args.text.now before.read;
      small = k.stays;
    }

-- a list without items is empty
no_items : (xs : List ℕ) (b : Bool) → b ≡ nat_eq (length xs) 0 → b ≡ true → xs ≡ []
no_items [] b h e = refl
no_items (x ∷ xs) b h e = grind arith

-- where nothing is left, what was found is all
found_all : (text : List ℕ) (r : Reader) → HasRead text r → r.rest.now ≡ [] → HasTokens text (Ok (map seen_token r.tokens.items))
found_all text r read none = subst (λ ts. HasTokens text (Ok ts)) (append-nil (map seen_token r.tokens.items)) (read [] (Ok []) (none, refl))

has_all : (text : List ℕ) (r : Reader) (b : Bool) → HasRead text r → b ≡ nat_eq (length r.rest.now) 0 → b ≡ true → HasTokens text (Ok (map seen_token r.tokens.items))
has_all text r b read empty done = found_all text r read (no_items r.rest.now b empty done)

pub returns-clause-tokens : goal.returns-clause-tokens
returns-clause-tokens c = tokens_lawful c.args.text.now _ (has_all c.args.text.now c.loop-reader.reader _ c.loop-reader.invariant.read c.is_empty.ensures (cc))

pub returns-clause-computed : goal.returns-clause-computed
returns-clause-computed c = laws_determine c.args.text.now _ None (returns-clause-tokens c)

pub returns-clause-spans : goal.returns-clause-spans
returns-clause-spans c = text_spans c.args.text.now _ (returns-clause-tokens c)

pub returns-clause-order : goal.returns-clause-order
returns-clause-order c = text_apart c.args.text.now _ (returns-clause-tokens c)

-- what is said of the fault that a text has
fault_so : {T : Type 0} (P : LexError → Type 0) (text : List ℕ) (r : Result T LexError) → ((e : LexError) → HasTokens text (Err e) → P e) → IfErr r (λ e. e ≢ NoMemory → HasTokens text (Err e)) → IfErr r (λ e. e ≢ NoMemory → P e)
fault_so P text (Ok x) so h = tt
fault_so P text (Err e) so h = λ other. so e (h other)

pub returns-in_err-read-clause-fault : goal.returns-in_err-read-clause-fault
returns-in_err-read-clause-fault c =
    let text = c.args.text.now in
    fault_so (λ e. (ts : List Tok) × Lexed text ts (Some e)) text c.from_residual.result (λ e h. fault_lawful text e h) (search rules)

pub returns-in_err-read-clause-fault_within : goal.returns-in_err-read-clause-fault_within
returns-in_err-read-clause-fault_within c =
    let text = c.args.text.now in
    fault_so (λ e. fault_offset e < length text) text c.from_residual.result (λ e h. let there = fault_lawful text e h in text_fault text there.0 e there.1) (search rules)

pub returns-in_err-read-clause-computed_fault : goal.returns-in_err-read-clause-computed_fault
returns-in_err-read-clause-computed_fault c =
    let text = c.args.text.now in
    fault_so (λ e. tokens_of text ≡ Err e) text c.from_residual.result (λ e h. has_then text (Err e) h) (search rules)
