use Rattle.std.proofs.Common.{[], ◌∷◌, ap, sym, ◌∙◌}
use Rattle.std.specs.Prelude.{All, map}
use Rattle.std.proofs.lemmas.List.Elements.{All-nil, All-same}
use Rattle.local_types.specs.Entries.{IsMap}
use Rattle.local_types.proofs.GrowFacts.{type_stays}
use Rattle.rule_state.specs.Sound.{Stands, StandsSeen}
use Rattle.rule_state.specs.Work.{around_in, work_of}
use Rattle.local_types.specs.declared.node.Point.{Point}
use Rattle.rule_state.proofs.SoundFacts.{none_given, one_given, grown_twice, stands_made, stands_on, confined_on}
use Rattle.rule_state.proofs.WorkFacts.{work_begun, around_in_stays}
use Rattle.rule_state.proofs.TableFacts.{knows_on}
use Rattle.rule_state.proofs.state.RuleState.new.Goals as goal

pub invariant_of-result : goal.invariant_of-result
invariant_of-result c =
    let outside = c.args.outside.items in
    let value = stands_made c.args.types c.plain.new.self outside [] c.in_ok-value.value (none_given c.args.types outside) c.plain.ensures.grows c.in_ok-value.ensures.there c.in_ok-value.ensures.made in
    let given = one_given c.plain.new.self outside c.in_ok-value.value value in
    let grows = grown_twice c.args.types c.plain.new.self c.everywhere.new.self outside [] (c.in_ok-value.value ∷ []) (none_given c.args.types outside) c.plain.ensures.grows given c.everywhere.ensures.grows in
    let types = c.everywhere.new.self in
    record {
      at_home = c.requires.own ∙ (sym c.plain.ensures.grows.home ∙ sym c.everywhere.ensures.grows.home);
      known = knows_on c.plain.new.self types outside (c.in_ok-value.value ∷ []) c.args.table.now c.args.imports c.everywhere.ensures.grows
          (knows_on c.args.types c.plain.new.self outside [] c.args.table.now c.args.imports c.plain.ensures.grows (record { declared = c.requires.known; imported = c.requires.imports }));
      sound = record {
        confined = confined_on c.args.types types outside grows c.requires.confined;
        value_stands = stands_on c.plain.new.self types outside (c.in_ok-value.value ∷ []) c.in_ok-value.value c.everywhere.ensures.grows value;
        held_stand = All-same (Stands types outside) c.new.result.items [] c.new.ensures.items (All-nil (Stands types outside));
        lists_stand = All-same (All (Stands types outside)) (map (λ list. list.items) c.new-2.result.items) [] (ap (map (λ list. list.items)) c.new-2.ensures.items) (All-nil (All (Stands types outside)));
        point_stands = c.in_ok-map.ensures.map;
        saved_stand = All-same (λ (p : Point). IsMap types p.map) c.new-3.result.items [] c.new-3.ensures.items (All-nil (λ (p : Point). IsMap types p.map));
        ends_stand = All-same (All (λ (p : Point). IsMap types p.map)) (map (λ list. list.items) c.new-4.result.items) [] (ap (map (λ list. list.items)) c.new-4.ensures.items) (All-nil (All (λ (p : Point). IsMap types p.map)));
        seen_stand = All-same (StandsSeen types outside) c.new-5.result.items [] c.new-5.ensures.items (All-nil (StandsSeen types outside));
      };
    }

pub returns : goal.returns
unfolding work_of
returns c =
    let outside = c.args.outside.items in
    let value = stands_made c.args.types c.plain.new.self outside [] c.in_ok-value.value (none_given c.args.types outside) c.plain.ensures.grows c.in_ok-value.ensures.there c.in_ok-value.ensures.made in
    let grows = grown_twice c.args.types c.plain.new.self c.everywhere.new.self outside [] (c.in_ok-value.value ∷ []) (none_given c.args.types outside) c.plain.ensures.grows (one_given c.plain.new.self outside c.in_ok-value.value value) c.everywhere.ensures.grows in
    work_begun c.everywhere.new.self c.in_ok-value.value c.new.result.items (map (λ list. list.items) c.new-2.result.items) c.in_ok-map.map c.new-3.result.items (map (λ list. list.items) c.new-4.result.items) c.new-5.result.items c.new-6.result.items _ (around_in c.args.types c.args.home outside c.args.table.now c.args.imports)
    (type_stays c.plain.new.self c.everywhere.new.self (c.in_ok-value.value ∷ []) c.everywhere.ensures.grows c.in_ok-value.value c.in_ok-value.ensures.there ∙ c.in_ok-value.ensures.term)
    (λ n. c.in_ok-map.ensures.entries n ∙ c.in_ok-value.ensures.term)
    (around_in_stays c.args.types c.everywhere.new.self outside c.args.home outside c.args.table.now c.args.imports grows c.requires.imports)
    c.new.ensures.items (ap (map (λ list. list.items)) c.new-2.ensures.items) c.new-3.ensures.items (ap (map (λ list. list.items)) c.new-4.ensures.items) c.new-5.ensures.items c.new-6.ensures.items
