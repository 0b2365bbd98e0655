-- The order of lines, which is derived, is that of the definition.
use Rattle.std.proofs.Common.{◌≡◌, ◌∙◌, refl, ap, sym}
use Rattle.std.specs.declared.cmp.Ordering.{Ordering}
use Rattle.std.specs.declared.cmp.Ordering.TheVariants.{Less, Equal, Greater}
use Rattle.std.specs.Ordering.{nat_cmp, ordering_then}
use Rattle.diag_text.specs.declared.line.Line.{Line}
use Rattle.diag_text.specs.declared.line.LineKind.{LineKind}
use Rattle.diag_text.specs.declared.line.LineKind.TheVariants.{Refused, Skipped, Argument, Missing, Operand, Value, Parameter}
use Rattle.diag_text.specs.contracts.line.LineOrd.TheImpl as lines
use Rattle.diag_text.specs.contracts.line.LineKindOrd.TheImpl as kinds
use Rattle.luau_tree.specs.Sorted.{bytes_cmp, sorted_by}
use Rattle.diag_text.specs.Line.{kind_rank, line_cmp}
use Rattle.diag_text.proofs.Lines.{same_line}
use Rattle.diag_text.proofs.order.sort_lines.Goals as goal

-- the kinds are ordered as they are declared
kinds_agree : (a b : LineKind) → (kinds.ghosts).cmp a b ≡ nat_cmp (kind_rank a) (kind_rank b)
kinds_agree Refused Refused = refl
kinds_agree Refused b = refl
kinds_agree Skipped Refused = refl
kinds_agree Skipped b = refl
kinds_agree Argument Refused = refl
kinds_agree Argument b = refl
kinds_agree Missing Refused = refl
kinds_agree Missing b = refl
kinds_agree Operand Refused = refl
kinds_agree Operand b = refl
kinds_agree Value Refused = refl
kinds_agree Value b = refl
kinds_agree Parameter Refused = refl
kinds_agree Parameter b = refl

-- line and column in one step or in two
grouped : (p l c k j m : Ordering) → k ≡ j → ordering_then p (ordering_then (ordering_then l c) (ordering_then k m)) ≡ ordering_then p (ordering_then l (ordering_then c (ordering_then j m)))
grouped Less l c k j m e = refl
grouped Greater l c k j m e = refl
grouped Equal Less c k j m e = refl
grouped Equal Greater c k j m e = refl
grouped Equal Equal c k j m e = ap (λ r. ordering_then c (ordering_then r m)) e

-- lines are compared by the order of the definition
agree : (a b : Line) → (lines.ghosts).cmp a b ≡ line_cmp a b
agree a b = grouped (bytes_cmp a.path b.path) (nat_cmp a.at.line b.at.line) (nat_cmp a.at.column b.at.column) _ _ (bytes_cmp a.message b.message) (kinds_agree a.kind b.kind)

pub sort_once-requires : goal.sort_once-requires
sort_once-requires c = λ a b e. same_line a b (sym (agree a b) ∙ e)

pub returns : goal.returns
returns c = c.sort_once.ensures.values ∙ ap (λ (cmp : Line → Line → Ordering). sorted_by cmp c.args.lines.items) (λ i a b. agree a b i)
