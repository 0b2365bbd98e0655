use Rattle.std.proofs.Common.{rules, ◌≡◌, ◌++◌, suc, codes, decimal, ap, ◌∙◌}
use Rattle.module_reports.proofs.Parts.{five_parts}
use Rattle.module_reports.proofs.wording.put_numbered.Goals as goal

pub returns : goal.returns
returns c =
    let first : c.extend_from_slice.new.self.items ≡ c.args.text.now.items ++ codes "argument " = search rules in
    let second : c.extend_from_slice-2.new.self.items ≡ c.extend_from_slice.new.self.items ++ decimal (suc c.args.index) = search rules in
    let third : c.extend_from_slice-3.new.self.items ≡ c.extend_from_slice-2.new.self.items ++ codes " of " = search rules in
    let fourth : c.extend_from_slice-4.new.self.items ≡ c.extend_from_slice-3.new.self.items ++ c.args.path.now = search rules in
    let fifth : c.extend_from_slice-5.new.self.items ≡ c.extend_from_slice-4.new.self.items ++ c.args.end.now = search rules in
    fifth
    ∙ ap (λ (x : _). x ++ c.args.end.now)
    (fourth ∙ ap (λ (x : _). x ++ c.args.path.now)
    (third ∙ ap (λ (x : _). x ++ codes " of ")
    (second ∙ ap (λ (x : _). x ++ decimal (suc c.args.index)) first)))
    ∙ five_parts c.args.text.now.items (codes "argument ") (decimal (suc c.args.index)) (codes " of ") c.args.path.now c.args.end.now
