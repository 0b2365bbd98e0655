-- The order of lines.
use Rattle.std.proofs.Common.{◌≡◌, ℕ, ◌==◌, refl, ap, sym, ◌∙◌, if◌then◌else◌}
use Rattle.std.specs.declared.cmp.Ordering.{Ordering}
use Rattle.std.specs.declared.cmp.Ordering.TheVariants.{Less, Equal, Greater}
use Rattle.std.specs.Ordering.{ordering_then}
use Rattle.std.specs.Cmp.{IsTotalOrder, nat_cmp_total, on_total, then_total, tied_itself}
use Rattle.std.specs.Cmp.Lexicographic.{nat_list_cmp_total}
use Rattle.std.specs.FinMap.{IsAntisymmetric, nat_cmp-IsAntisymmetric, slice_cmp-IsAntisymmetric}
use Rattle.diag_text.specs.declared.line.Line.{Line}
use Rattle.diag_text.specs.declared.line.LineKind.{LineKind}
use Rattle.diag_text.specs.declared.line.LineKind.TheVariants.{Refused, Skipped, Argument, Missing, Operand, Value, Parameter}
use Rattle.luau_tree.specs.Sorted.{bytes_cmp}
use Rattle.diag_text.specs.Line.{line_cmp, kind_rank}

-- a kind is known by its rank
kind_at : ℕ → LineKind
kind_at n = if n == 0 then Refused else if n == 1 then Skipped else if n == 2 then Argument else if n == 3 then Missing else if n == 4 then Operand else if n == 5 then Value else Parameter

-- the rank of a kind gives the kind back
kind_at-kind_rank : (k : LineKind) → kind_at (kind_rank k) ≡ k
unfolding kind_at
kind_at-kind_rank Refused = refl
kind_at-kind_rank Skipped = refl
kind_at-kind_rank Argument = refl
kind_at-kind_rank Missing = refl
kind_at-kind_rank Operand = refl
kind_at-kind_rank Value = refl
kind_at-kind_rank Parameter = refl

-- kinds of one rank are equal
same_kind : (a b : LineKind) → kind_rank a ≡ kind_rank b → a ≡ b
same_kind a b e = sym (kind_at-kind_rank a) ∙ ap kind_at e ∙ kind_at-kind_rank b

-- lines are compared by a total order
pub line_cmp_total : IsTotalOrder line_cmp
line_cmp_total = then_total (on_total (λ l. l.path) nat_list_cmp_total) (then_total (on_total (λ l. l.at.line) nat_cmp_total) (then_total (on_total (λ l. l.at.column) nat_cmp_total) (then_total (on_total (λ l. kind_rank l.kind) nat_cmp_total) (on_total (λ l. l.message) nat_list_cmp_total))))

-- two orders tie where both do
both_equal : (r s : Ordering) → ordering_then r s ≡ Equal → (r ≡ Equal) × (s ≡ Equal)
both_equal Less s e = (e, cc)
both_equal Equal s e = (refl, e)
both_equal Greater s e = (e, cc)

-- bytes that tie are equal
same_bytes : IsAntisymmetric bytes_cmp
same_bytes = slice_cmp-IsAntisymmetric nat_cmp-IsAntisymmetric

-- lines that tie are equal
pub same_line : IsAntisymmetric line_cmp
same_line a b e =
    let p = both_equal _ _ e in
    let l = both_equal _ _ p.1 in
    let c = both_equal _ _ l.1 in
    let k = both_equal _ _ c.1 in
    let path = same_bytes a.path b.path p.0 in
    let line = nat_cmp-IsAntisymmetric a.at.line b.at.line l.0 in
    let column = nat_cmp-IsAntisymmetric a.at.column b.at.column c.0 in
    let kind = same_kind a.kind b.kind (nat_cmp-IsAntisymmetric (kind_rank a.kind) (kind_rank b.kind) k.0) in
    let message = same_bytes a.message b.message k.1 in
    λ i. record { path = path i; at = record { line = line i; column = column i }; kind = kind i; message = message i }

pub tie_itself : (a b : Line) → a ≡ b → line_cmp a b ≡ Equal
tie_itself a b e = ap (line_cmp a) (sym e) ∙ tied_itself line_cmp_total a
