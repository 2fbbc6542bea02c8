use Rattle.std.proofs.Common.{◌+◌, ◌++◌, [], drop, refl}
use Rattle.picture_model.specs.Drawing.{user_row, user_rows}
use Rattle.text_writer.proofs.Added.{◌⨾◌, adds_is, adds_none}
use Rattle.schedule_figures.proofs.Texts.{one_more, none_left}
use Rattle.schedule_drawing.proofs.Drawn.{users_next, users_none}
use Rattle.schedule_drawing.proofs.wait.add_users.Goals as goal

pub loop-index-init : goal.loop-index-init
loop-index-init g c = ([], adds_none g.K.Sink c.args.out.now, refl)

pub loop-index-preserved : goal.loop-index-preserved
loop-index-preserved g c = (
  c.loop-index.invariant.0 ++ user_row c.args.sheet.scale c.args.sheet.zoom (c.loop-index.index + 1) c.index-accounts-index.result c.args.entries.now,
  c.loop-index.invariant.1 ⨾ c.add_user.ensures,
  one_more c.loop-index.invariant.0
      (user_row c.args.sheet.scale c.args.sheet.zoom (c.loop-index.index + 1) c.index-accounts-index.result c.args.entries.now)
      (user_rows c.args.sheet.scale c.args.sheet.zoom (c.loop-index.index + 1 + 1) (drop (c.loop-index.index + 1) c.args.accounts.now) c.args.entries.now)
      (user_rows c.args.sheet.scale c.args.sheet.zoom (c.loop-index.index + 1) (drop c.loop-index.index c.args.accounts.now) c.args.entries.now)
      (user_rows c.args.sheet.scale c.args.sheet.zoom 1 c.args.accounts.now c.args.entries.now)
      (users_next c.args.sheet.scale c.args.sheet.zoom c.args.accounts.now c.args.entries.now c.loop-index.index c.index-accounts-index.result
      c.loop-index-test.true c.index-accounts-index.is)
      c.loop-index.invariant.2,
)

pub returns : goal.returns
returns g c =
    adds_is
    (none_left c.loop-index.invariant.0
    (user_rows c.args.sheet.scale c.args.sheet.zoom (c.loop-index.index + 1) (drop c.loop-index.index c.args.accounts.now) c.args.entries.now)
    (user_rows c.args.sheet.scale c.args.sheet.zoom 1 c.args.accounts.now c.args.entries.now)
    (users_none c.args.sheet.scale c.args.sheet.zoom (c.loop-index.index + 1) c.args.accounts.now c.args.entries.now c.loop-index.index c.loop-index-test.false)
    c.loop-index.invariant.2)
    c.loop-index.invariant.1
