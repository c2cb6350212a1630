use Rattle.std.proofs.Common.{◌≡◌, ◌+◌, ◌<◌, ◌≤◌, [], All, length, get_or, sym, subst, arith}
use Rattle.std.specs.List.{fold}
use Rattle.auto_monoid.specs.AutoOf.{plain_auto}
use Rattle.auto_monoid.specs.Functions.{IsFunction}
use Rattle.auto_monoid.specs.Numbering.{extensions, with_new}
use Rattle.auto_monoid.proofs.Found.{IsNumbering-from, discovered-IsFunction, discovered-more}
use Rattle.auto_monoid.proofs.Found.{closed-more, longer-more}
use Rattle.auto_monoid.proofs.All.{too_many_found}
use Rattle.auto_monoid.proofs.discovery.discover.Goals as goal

pub returns-then-element-len-clause-numbered : goal.returns-then-element-len-clause-numbered
returns-then-element-len-clause-numbered c =
    let so_far = c.loop-element.invariant in
    IsNumbering-from (plain_auto c.args.auto.now) c.loop-element.functions.items c.loop-element.element
    (let is = c.if-element-len.true in let len = c.len.ensures in omega arith) so_far.so_far so_far.closed

pub extend-requires-clause-functions : goal.extend-requires-clause-functions
extend-requires-clause-functions c =
    let a = plain_auto c.args.auto.now in
    subst (All (IsFunction a.states)) (sym c.loop-element.invariant.so_far)
    (discovered-IsFunction a c.requires.auto c.loop-element.element)

pub returns-then-len-clause-too_many : goal.returns-then-len-clause-too_many
returns-then-len-clause-too_many c =
    let a = plain_auto c.args.auto.now in
    let fs = c.loop-element.functions.items in
    let hs = c.extend.new.functions.items in
    let n = c.loop-element.element in
    let reached = c.loop-element.invariant.reached in
    let inside : n < length fs = (let apart = c.if-element-len.false in let len = c.len.ensures in omega arith) in
    let extended : hs ≡ fold with_new fs (extensions a (get_or fs n [])) = c.in_default.ensures in
    let many : 64 < length hs = (let more = c.if-len.true in let len = c.len-in-loop-element.ensures in omega arith) in
    let step : n + 1 ≤ 64 = omega arith in
    λ _. too_many_found a (n + 1) step
    (subst (λ gs. 64 < length gs) (discovered-more a fs hs n inside c.loop-element.invariant.so_far extended) many)

pub loop-element-preserved : goal.loop-element-preserved
loop-element-preserved c =
    let a = plain_auto c.args.auto.now in
    let fs = c.loop-element.functions.items in
    let hs = c.extend.new.functions.items in
    let n = c.loop-element.element in
    let so_far = c.loop-element.invariant in
    let reached = so_far.reached in
    let inside : n < length fs = (let apart = c.if-element-len.false in let len = c.len.ensures in omega arith) in
    let extended : hs ≡ fold with_new fs (extensions a (get_or fs n [])) = c.in_default.ensures in
    record {
      so_far = discovered-more a fs hs n inside so_far.so_far extended;
      closed = closed-more a fs hs n inside so_far.so_far extended so_far.closed;
      reached = longer-more a fs hs n inside so_far.so_far extended;
      few = (let not_more = c.if-len.false in let len = c.len-in-loop-element.ensures in omega arith);
    }

pub returns-clause-numbered : goal.returns-clause-numbered
returns-clause-numbered c =
    let so_far = c.loop-element.invariant in
    IsNumbering-from (plain_auto c.args.auto.now) c.loop-element.functions.items c.loop-element.element
    (let past = c.loop-element-test.false in let few = so_far.few in let reached = so_far.reached in omega arith)
    so_far.so_far so_far.closed
