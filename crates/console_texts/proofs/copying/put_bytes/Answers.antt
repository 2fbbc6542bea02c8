use Rattle.std.proofs.Common.{rules, ◌++◌, ℕ, List, take, sym, subst, arith}
use Rattle.std.proofs.lemmas.List.{append-nil}
use Rattle.console_texts.specs.Copying.{IsCopied}
use Rattle.console_texts.proofs.Bytes.{text_more, text_whole}
use Rattle.console_texts.proofs.copying.put_bytes.Goals as goal

pub bytes-init : goal.bytes-init
bytes-init c = record {
  copied = λ from text slice h. subst (λ (xs : List ℕ). IsCopied from xs slice c.args.window.now c.args.into.now) (sym (append-nil text)) h;
  end = search rules;
}

pub bytes-preserved : goal.bytes-preserved
bytes-preserved c = record {
  copied = λ from text slice h. subst (λ (xs : List ℕ). IsCopied from xs slice c.put_byte.new.window c.put_byte.new.into)
      (text_more text c.args.bytes.now c.bytes.i 0 (let e = c.bytes.invariant.end in let t = c.bytes-test.true in omega (arith, e, t)))
      (c.put_byte.ensures from (text ++ take c.bytes.i c.args.bytes.now) slice (c.bytes.invariant.copied from text slice h));
  end = c.bytes.invariant.end;
}

pub returns : goal.returns
returns c = λ from text slice h. subst (λ (xs : List ℕ). IsCopied from xs slice c.bytes.window c.bytes.into)
    (text_whole text c.args.bytes.now c.bytes.i (let e = c.bytes.invariant.end in let t = c.bytes-test.false in omega (arith, e, t))) (c.bytes.invariant.copied from text slice h)
