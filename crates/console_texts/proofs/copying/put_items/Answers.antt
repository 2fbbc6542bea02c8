use Rattle.std.proofs.Common.{rules, ◌++◌, ℕ, List, take, sym, subst, arith}
use Rattle.std.proofs.lemmas.List.{append-nil}
use Rattle.time_sharing.specs.Texts.{written, sent}
use Rattle.console_texts.specs.Copying.{IsCopied}
use Rattle.console_texts.proofs.Bytes.{items_more, items_whole}
use Rattle.console_texts.proofs.copying.put_items.Goals as goal

pub items-init : goal.items-init
items-init c = record {
  copied = λ from text slice h. subst (λ (xs : List ℕ). IsCopied from xs slice c.args.window.now c.args.into.now) (sym (append-nil text)) h;
  end = search rules;
}

pub items-preserved : goal.items-preserved
items-preserved c = record {
  copied = λ from text slice h. subst (λ (xs : List ℕ). IsCopied from xs slice c.put_item.new.window c.put_item.new.into)
      (items_more text c.args.items.now c.items.i c.index-items-i.result (let e = c.items.invariant.end in let t = c.items-test.true in omega (arith, e, t)) c.index-items-i.is)
      (c.put_item.ensures from (text ++ sent (written (take c.items.i c.args.items.now))) slice (c.items.invariant.copied from text slice h));
  end = c.items.invariant.end;
}

pub returns : goal.returns
returns c = λ from text slice h. subst (λ (xs : List ℕ). IsCopied from xs slice c.items.window c.items.into)
    (items_whole text c.args.items.now c.items.i (let e = c.items.invariant.end in let t = c.items-test.false in omega (arith, e, t))) (c.items.invariant.copied from text slice h)
