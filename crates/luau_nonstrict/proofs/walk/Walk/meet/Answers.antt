use Rattle.std.proofs.Common.{sym, ◌∙◌, subst, string_bytes}
use Rattle.luau_nonstrict.specs.Visible.{IsShown, IsVisible}
use Rattle.luau_nonstrict.proofs.Shown.{All-push, IsShown-join}
use Rattle.luau_nonstrict.proofs.walk.Walk.meet.Goals as goal

pub returns-in_ok-push-clause-visible : goal.returns-in_ok-push-clause-visible
returns-in_ok-push-clause-visible c = record {
  pending = c.requires.visible.pending;
  found = All-push (λ path. IsVisible (string_bytes path)) _ _ _ c.in_ok-push.ensures.items c.requires.visible.found
      (c.args.folder.now, c.args.name.now, c.in_ok-joined.ensures, c.requires.shown, c.requires.name);
}

pub returns-in_ok-push-2-clause-visible : goal.returns-in_ok-push-2-clause-visible
returns-in_ok-push-2-clause-visible c =
    let plain = sym c.is_hidden.ensures ∙ c.if-not-is_hidden.true in
    record {
      pending = All-push (λ folder. IsShown (string_bytes folder)) _ _ _ c.in_ok-push-2.ensures.items c.requires.visible.pending
          (subst IsShown (sym c.in_ok-joined-2.ensures) (IsShown-join c.args.folder.now c.args.name.now c.requires.shown c.requires.name plain));
      found = c.requires.visible.found;
    }
