use Rattle.std.proofs.Common.{refl, take, ap, ◌∙◌}
use Rattle.console_wire.specs.Items.{half_of, piece_from}
use Rattle.console_server.proofs.Following.{stays_on, given_none, half_none, fed_next, half_next, fed_stops}
use Rattle.console_server.proofs.ReadLaws.{on_err}
use Rattle.console_server.proofs.book.Book.feed.Goals as goal

pub loop-byte-init : goal.loop-byte-init
loop-byte-init g c =
    record {
      given = λ piece is. given_none g.C.LiveCore.Goes g.met.C.LiveCore.goes_nowhere g.met.C.LiveCore.goes_on c.args.tick c.args.console piece _ _;
      half = λ piece is. is ∙ ap half_of (half_none piece);
      core = record { same = refl; ready = c.requires.ready };
    }

pub returns-in_err-feed_one-clause-err : goal.returns-in_err-feed_one-clause-err
returns-in_err-feed_one-clause-err g c piece is =
    on_err c.from_residual.result (fed_stops g.C.LiveCore.Goes g.met.C.LiveCore.goes_nowhere g.met.C.LiveCore.goes_on c.args.tick c.args.console piece c.args.bytes.now c.loop-byte.byte-index _ _ _ _ _ _ (c.loop-byte.invariant.given piece is) c.in_err-feed_one.ensures.err)

pub loop-byte-preserved : goal.loop-byte-preserved
loop-byte-preserved g c =
    record {
      given = λ piece is. fed_next g.C.LiveCore.Goes g.met.C.LiveCore.goes_nowhere g.met.C.LiveCore.goes_on c.args.tick c.args.console piece c.args.bytes.now c.loop-byte.byte-index _ _ _ _ _ _ c.loop-byte-test.true (c.loop-byte.invariant.given piece is) (c.in_ok-feed_one.ensures.ok (piece_from piece (take c.loop-byte.byte-index c.args.bytes.now)) (c.loop-byte.invariant.half piece is));
      half = λ piece is. half_next piece c.args.bytes.now _ c.loop-byte.byte-index c.loop-byte-test.true (c.in_ok-feed_one.ensures.half (piece_from piece (take c.loop-byte.byte-index c.args.bytes.now)) (c.loop-byte.invariant.half piece is));
      core = stays_on _ _ c.loop-byte.invariant.core c.in_ok-feed_one.ensures.core;
    }
