use Rattle.position_multi_ron.proofs.laws.Settled.{Given}
use Rattle.position_multi_ron.proofs.settle_all.Given as goal

abbrev pub invariant-loop-h : goal.invariant-loop-h
invariant-loop-h l = Given l.p l.first l.number l.fn.hands l.by l.h-index
