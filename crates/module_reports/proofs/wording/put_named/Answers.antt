use Rattle.std.proofs.Common.{rules, ◌≡◌, ◌++◌, ap, ◌∙◌}
use Rattle.module_reports.proofs.Parts.{three_parts}
use Rattle.module_reports.proofs.wording.put_named.Goals as goal

pub returns : goal.returns
returns c =
    let first : c.extend_from_slice.new.self.items ≡ c.args.text.now.items ++ c.args.begin.now = search rules in
    let second : c.extend_from_slice-2.new.self.items ≡ c.extend_from_slice.new.self.items ++ c.args.name.now = search rules in
    let third : c.extend_from_slice-3.new.self.items ≡ c.extend_from_slice-2.new.self.items ++ c.args.end.now = search rules in
    third
    ∙ ap (λ (x : _). x ++ c.args.end.now) (second ∙ ap (λ (x : _). x ++ c.args.name.now) first)
    ∙ three_parts c.args.text.now.items c.args.begin.now c.args.name.now (c.args.end.now)
