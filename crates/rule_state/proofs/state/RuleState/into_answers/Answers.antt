use Rattle.std.proofs.Common.{ap, sym, ◌∙◌}
use Rattle.std.specs.Prelude.{map}
use Rattle.type_arena.specs.Arena.{below_of, home_of, store_of}
use Rattle.type_arena.specs.Meaning.{term_of}
use Rattle.type_arena.specs.declared.arena.Arena.{Arena}
use Rattle.rule_state.specs.Answers.{seen_in}
use Rattle.rule_state.specs.Work.{work_of}
use Rattle.rule_state.proofs.SoundFacts.{handed_within}
use Rattle.rule_state.proofs.SeenFacts.{all_seen_in}
use Rattle.rule_state.proofs.state.RuleState.into_answers.Goals as goal

pub returns-clause-value : goal.returns-clause-value
unfolding work_of
returns-clause-value c = ap (λ (arena : Arena). term_of (store_of arena) c.args.self.value) c.into_arena.ensures

pub returns-clause-seen : goal.returns-clause-seen
unfolding work_of
returns-clause-seen c = ap (λ (arena : Arena). map (seen_in (store_of arena)) c.args.self.seen.items) c.into_arena.ensures ∙ all_seen_in c.args.self.types c.args.self.seen.items

pub returns-clause-home : goal.returns-clause-home
unfolding work_of
returns-clause-home c = ap home_of c.into_arena.ensures ∙ sym c.args.self.at_home

pub returns-clause-below : goal.returns-clause-below
unfolding work_of
returns-clause-below c = ap below_of c.into_arena.ensures

pub returns-clause-homes : goal.returns-clause-homes
unfolding work_of
returns-clause-homes c = λ test starts homes. handed_within c.args.self c.into_arena.result test c.into_arena.ensures starts homes
