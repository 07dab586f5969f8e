use Rattle.std.proofs.Common.{◌≡◌, ◌∙◌, cond, arith}
use lib.Dec.{ltb}
use Rattle.host.proofs.Host.writable_bits.Goals as goal
use Rattle.host.proofs.Bits.{ready_same, marked_all}

pub returns : goal.returns
returns c =
    let h = c.args.self.now in
    let e : c.from-mark.result ≡ cond (ltb h.out.count 16) 1 0 = grind arith in
    c.ready_bits.ensures ∙ ready_same _ _ _ 16 (λ i l. marked_all (ltb h.out.count 16) _ h.sockets i e l)
