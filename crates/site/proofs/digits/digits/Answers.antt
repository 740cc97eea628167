-- One more digit is read.
use Rattle.std.proofs.Common.{sym, ◌∙◌, arith}
use Rattle.site.proofs.Reading.{more, read_digit, room}
use Rattle.site.proofs.digits.digits.Goals as goal

pub overflow_mul-value : goal.overflow_mul-value
overflow_mul-value c = let low = room c.loop-c.value c.loop-c.c-index c.loop-c.invariant.1 (omega arith) in omega arith

pub loop-c-preserved : goal.loop-c-preserved
loop-c-preserved c =
    let step = read_digit c.loop-c.value c.args.text.now c.loop-c.c-index c.in_ok-value.field-0 c.loop-c-test.true c.in_ok-value.ensures.value in
    (sym step ∙ c.loop-c.invariant.0, more c.loop-c.value c.loop-c.c-index c.in_ok-value.field-0 c.loop-c.invariant.1 c.in_ok-value.ensures.bound)
