use Rattle.std.proofs.Common.{◌∙◌}
use Rattle.type_fields.specs.Unions.{unions_with}
use Rattle.rule_state.specs.Work.{work_of}
use Rattle.rule_state.proofs.ListFacts.{list_stands, sound_unlisted, used_is, used_none}
use Rattle.rule_state.proofs.state.RuleState.union_list.Goals as goal

pub invariant_of-self : goal.invariant_of-self
invariant_of-self c =
    let state = c.args.self.now in
    record { at_home = state.at_home; known = state.known; sound = sound_unlisted state c.pop.new.self.items c.pop.result c.pop.ensures.items }

pub union_all-requires : goal.union_all-requires
union_all-requires c = list_stands c.args.self.now c.pop.new.self.items c.pop.result c.in-Some.list c.pop.ensures.items c.in-Some.is

pub returns-in_ok-union_all : goal.returns-in_ok-union_all
unfolding work_of
returns-in_ok-union_all c = c.in_ok-union_all.ensures ∙ used_is unions_with c.args.self.now c.pop.new.self.items c.pop.result c.in-Some.list c.pop.ensures.items c.in-Some.is

pub returns-in_default : goal.returns-in_default
unfolding work_of
returns-in_default c = used_none unions_with _ c.args.self.now c.pop.new.self.items c.pop.result _ _ c.pop.ensures.items c.pop.ensures.cases c.args.self.now.lists.ok.0 c.in_default.is
