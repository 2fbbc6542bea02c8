use Rattle.std.proofs.Common.{arith}
use Rattle.console_texts.proofs.Bytes.{byte_put}
use Rattle.console_texts.proofs.copying.put_byte.Goals as goal

pub returns-then-window-into : goal.returns-then-window-into
returns-then-window-into c = λ from text slice h. byte_put from text slice c.args.into.now c.args.window.now c.args.byte h (let e = c.if-window-gt0.false in omega (arith, e)) (let e = c.if-window-into.true in omega (arith, e))
