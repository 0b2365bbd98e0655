-- Seats that have drawn until they met the limit, joined; and their outputs in order.
use Rattle.std.proofs.Common.{◌≡◌, ℕ, ◌+◌, ◌||◌, List, ◌++◌, take, drop, sym, ap, ◌∙◌, subst, arith}
use Rattle.std.specs.Prelude.{nat_lt}
use Rattle.std.proofs.lemmas.List.Elements.{All-append, filter-append}
use Rattle.std.proofs.lemmas.List.{map-append}
use Rattle.std.proofs.lemmas.List.Sums.{sum_by-take-drop}
use Rattle.level_workers.specs.Numbers.{below}
use Rattle.level_workers.specs.Seats.{Board, Held, drawn, with_seat, parts_of, DrewAllIfWhole}
use Rattle.level_workers.specs.Outputs.{numbers_of, IsDone}

module _ {A : Type 0} (gives : ℕ → A → Type 0) (board : Board) where
  pub IsDone-joined : (p q parts : ℕ) (outputs rest items : List (ℕ × A)) (a b after : Held) → IsDone gives board p outputs a → IsDone gives board q rest b
      → after ≡ with_seat a b → DrewAllIfWhole after → p + q ≡ parts → items ≡ outputs ++ rest → IsDone gives board parts items after
  IsDone-joined p q parts outputs rest items a b after front back is all sum joined =
      let both : IsDone gives board (p + q) (outputs ++ rest) (with_seat a b) = record {
        board_is = front.board_is;
        parts_are = omega (arith, front.parts_are, back.parts_are);
        met = ap (λ m. m || b.met) front.met;
        numbers = map-append (λ (o : ℕ × A). o.0) outputs rest ∙ ap (λ l. l ++ numbers_of rest) front.numbers ∙ ap (λ l. drawn a ++ l) (back.numbers ∙ ap (λ k. below k b.finds) limits)
            ∙ sym (filter-append (λ n. nat_lt n a.board.limit) a.finds b.finds);
        given = All-append (λ (o : ℕ × A). gives o.0 o.1) outputs rest front.given back.given;
        all = subst DrewAllIfWhole is all;
      } in
      subst (λ n. IsDone gives board n items after) sum (subst (λ l. IsDone gives board (p + q) l after) (sym joined) (subst (IsDone gives board (p + q) (outputs ++ rest)) (sym is) both))
    where
      limits : b.board.limit ≡ a.board.limit
      limits = ap (λ (x : Board). x.limit) (back.board_is ∙ sym front.board_is)

-- the parts of the seats before a place and of those from it on
pub parts_of-halves : (seats low high : List Held) (n : ℕ) → low ≡ take n seats → high ≡ drop n seats → parts_of low + parts_of high ≡ parts_of seats
parts_of-halves seats low high n front back =
    ap (λ (l : List Held). parts_of l + parts_of high) front ∙ ap (λ (l : List Held). parts_of (take n seats) + parts_of l) back ∙ sum_by-take-drop (λ (h : Held). h.parts) seats n
