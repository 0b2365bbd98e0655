use Rattle.std.proofs.Common.{rules, ◌≡◌, ◌++◌, ℕ, suc, List, [], codes, decimal, ap, sym, ◌∙◌, subst, OnOk}
use Rattle.report_rules.specs.Checks.{Argument, ValueOf, ParameterOf}
use Rattle.report_rules.specs.Messages.{message as message_of}
use Rattle.module_reports.proofs.Parts.{five_parts}
use Rattle.module_reports.specs.Meant.{kind_meant}
use Rattle.module_reports.specs.declared.kind.ReportKind.{ReportKind}
use Rattle.module_reports.proofs.wording.put_message.Goals as goal

pub returns-in-Argument : goal.returns-in-Argument
returns-in-Argument c =
    let path : c.as_slice.result.now ≡ c.in-Argument.builtin = search rules in
    subst (λ (m : List ℕ). OnOk c.put_numbered.result (c.put_numbered.new.text.items ≡ c.args.text.now.items ++ m))
    (sym (five_parts [] (codes "argument ") (decimal (suc c.in-Argument.index)) (codes " of ") c.as_slice.result.now (codes " always fails"))
    ∙ ap (λ (name : List ℕ). message_of (Argument c.in-Argument.index name)) path ∙ sym (ap (λ (kind : ReportKind). message_of (kind_meant kind)) c.in-Argument.is))
    c.put_numbered.ensures

pub returns-in-Value : goal.returns-in-Value
returns-in-Value c =
    let bytes : c.as_slice-in-Value.result.now ≡ c.in-Value.name = search rules in
    subst (λ (m : List ℕ). OnOk c.put_named-in-Value.result (c.put_named-in-Value.new.text.items ≡ c.args.text.now.items ++ m))
    (ap (λ (name : List ℕ). message_of (ValueOf name)) bytes ∙ sym (ap (λ (kind : ReportKind). message_of (kind_meant kind)) c.in-Value.is))
    c.put_named-in-Value.ensures

pub returns-in-Parameter : goal.returns-in-Parameter
returns-in-Parameter c =
    let bytes : c.as_slice-in-Parameter.result.now ≡ c.in-Parameter.name = search rules in
    subst (λ (m : List ℕ). OnOk c.put_named-in-Parameter.result (c.put_named-in-Parameter.new.text.items ≡ c.args.text.now.items ++ m))
    (ap (λ (name : List ℕ). message_of (ParameterOf name)) bytes ∙ sym (ap (λ (kind : ReportKind). message_of (kind_meant kind)) c.in-Parameter.is))
    c.put_named-in-Parameter.ensures
