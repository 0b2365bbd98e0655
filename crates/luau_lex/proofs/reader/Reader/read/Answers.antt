use Rattle.std.proofs.Common.{OnOk, Result, Ok, Err, sym, ap, ◌∙◌, map}
use Rattle.luau_lex.specs.Computed.Pieces.{piece}
use Rattle.luau_lex.specs.Token.{seen_token}
use Rattle.luau_lex.specs.Computed.Reads.{StandsHere}
use Rattle.luau_lex.specs.declared.piece.Piece.TheVariants.{Gap, Found, Faulty}
use Rattle.luau_lex.proofs.GrammarLemmas.{gap_has, found_has, fault_has}
use Rattle.luau_lex.proofs.reader.Reader.read.Goals as goal

-- what holds where a call is Ok
on_ok : {T E A B C D G : Type 0} (r : Result T E) → OnOk r A → OnOk r B → OnOk r C → OnOk r D → (A → B → C → D → G) → OnOk r G
on_ok (Ok x) a b c d f = f a b c d
on_ok (Err e) a b c d f = tt

pub returns-in-Gap-clause-pieces : goal.returns-in-Gap-clause-pieces
returns-in-Gap-clause-pieces c =
    let s = c.args.self.now in
    let new = c.skip.new.self in
    let k = c.skip.ensures in
    let is = ap (λ b. piece b s.at s.rest.now) (sym c.innermost.ensures) ∙ sym c.in-Gap.ensures.value in
    let stands : StandsHere s.opens.items s.at s.rest.now (Gap c.in-Gap.n) = record { some = c.requires.some; here = is; within = c.in-Gap.ensures.within } in
    λ text has. gap_has text (map seen_token s.tokens.items) (map seen_token new.tokens.items) s.opens.items new.opens.items c.in-Gap.n s.at new.at s.rest.now new.rest.now stands (ap (map seen_token) k.tokens) k.opens k.at k.rest has

pub returns-in-Found-clause-pieces : goal.returns-in-Found-clause-pieces
returns-in-Found-clause-pieces c =
    let s = c.args.self.now in
    let new = c.take.new.self in
    let k = c.take.ensures in
    let is = ap (λ b. piece b s.at s.rest.now) (sym c.innermost.ensures) ∙ sym c.in-Found.ensures.value in
    let stands : StandsHere s.opens.items s.at s.rest.now (Found c.in-Found.kind c.in-Found.n) = record { some = c.requires.some; here = is; within = c.in-Found.ensures.within } in
    on_ok c.take.result k.at k.rest k.opens k.tokens
    (λ at rest opens tokens text has. found_has text (map seen_token s.tokens.items) (map seen_token new.tokens.items) s.opens.items new.opens.items c.in-Found.kind c.in-Found.n s.at new.at s.rest.now new.rest.now stands at rest opens tokens has)

pub returns-in-Faulty-clause-fault : goal.returns-in-Faulty-clause-fault
returns-in-Faulty-clause-fault c =
    let s = c.args.self.now in
    let is = ap (λ b. piece b s.at s.rest.now) (sym c.innermost.ensures) ∙ sym c.in-Faulty.ensures.value in
    let stands : StandsHere s.opens.items s.at s.rest.now (Faulty c.in-Faulty.fault) = record { some = c.requires.some; here = is; within = c.in-Faulty.ensures.within } in
    λ _ text has. fault_has text (map seen_token s.tokens.items) s.opens.items c.in-Faulty.fault s.at s.rest.now stands has
