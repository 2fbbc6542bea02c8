use Rattle.std.proofs.Common.{◌≡◌, ◌<◌, length, length-append, ap, arith, refl, ◌∙◌}
use Rattle.medium.specs.Medium.{Call, with_call}
use Rattle.medium.specs.LogState.{LogState}
use Rattle.medium.specs.Log.{calls_of}
use Rattle.medium.specs.declared.log.Made.{Made}
use Rattle.medium.proofs.Logs.{room_less, size_of-push, calls_of-push, told_push}
use Rattle.medium.proofs.log.CallLog.push.Goals as goal

pub unwrap-requires-2 : goal.unwrap-requires-2
unwrap-requires-2 c =
    let words_each : c.self.inside.words_each ≡ c.args.self.now.words_each = ap (λ (s : LogState). s.words_each) c.self.view_is in
    let some : 0 < c.self.inside.room = omega arith in
    let less = room_less c.self.inside.room c.self.inside.words_each some in
    c.extend_from_slice.ensures.succeeds (omega (arith, c.self.invariant.room, less))

pub invariant_of-self-2 : goal.invariant_of-self-2
invariant_of-self-2 c =
    let words_each : c.self.inside.words_each ≡ c.args.self.now.words_each = ap (λ (s : LogState). s.words_each) c.self.view_is in
    let some : 0 < c.self.inside.room = omega arith in
    let less = room_less c.self.inside.room c.self.inside.words_each some in
    let made = rw c.unwrap.ensures at c.push.ensures.items in
    let given = rw c.unwrap-2.ensures at c.extend_from_slice.ensures.items in
    let more = size_of-push c.self.inside.made.items (record { is_write = c.args.is_write; at = c.args.at; failed = c.args.failed; len = length c.args.words.now }) in
    record {
      words = rw (made, given) (simp length-append (omega (arith, more, c.self.invariant.words)));
      heads = rw made (simp length-append (omega (arith, c.self.invariant.heads, c.push.ensures.capacity)));
      room = rw given (simp length-append (omega (arith, c.self.invariant.room, c.extend_from_slice.ensures.capacity, less)));
    }

pub returns-clause-calls : goal.returns-clause-calls
returns-clause-calls c =
    let some : 0 < c.self.inside.room = omega arith in
    let made = rw c.unwrap.ensures at c.push.ensures.items in
    let given = rw c.unwrap-2.ensures at c.extend_from_slice.ensures.items in
    let head : Made = record { is_write = c.args.is_write; at = c.args.at; failed = c.args.failed; len = length c.args.words.now } in
    let call : Call = record { is_write = c.args.is_write; at = c.args.at; failed = c.args.failed; words = c.args.words.now } in
    let more = (λ i. calls_of (made i) (given i)) ∙ calls_of-push c.self.inside.made.items c.self.inside.given.items head c.args.words.now c.self.invariant.words refl in
    told_push c.self.inside.tells _ _ c.self.inside.room call some more ∙ ap (λ (s : LogState). with_call s.calls call) c.self.view_is
