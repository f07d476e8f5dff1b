use Rattle.runs.proofs.Answers.{unwalked, walked_fine, no_first, no_last, walked_told}
use Rattle.runs.proofs.best_run.Goals as goal
use Rattle.runs.proofs.best_run.Goals.{else-walkable-via-then-walkable+then-from-num_vertices+else-to-num_vertices, else-walkable-via-then-walkable+else-from-num_vertices, else-walkable-via-else-walkable}

pub find_run-requires : goal.find_run-requires
find_run-requires c =
    let a = c.args in
    let f = walked_fine _ _ _ _ a.from a.to a.buffer.now _ c.walkable.ensures c.if-walkable.true in
    (f.0, f.1, c.if-from-num_vertices.true, c.if-to-num_vertices.true)

pub returns-then-to-num_vertices : goal.returns-then-to-num_vertices
returns-then-to-num_vertices c =
    walked_told _ _ _ _ _ _ _ _ c.walkable.ensures c.if-walkable.true _ c.if-from-num_vertices.true c.if-to-num_vertices.true
    c.find_run.ensures

pub returns : goal.returns
returns c = elim c.else-walkable.branch [
  | else-walkable-via-then-walkable+then-from-num_vertices+else-to-num_vertices w ↦
      no_last _ _ _ _ _ _ _ _ c.walkable.ensures w.if-walkable.true w.if-from-num_vertices.true w.if-to-num_vertices.false
  | else-walkable-via-then-walkable+else-from-num_vertices w ↦ no_first _ _ _ _ _ _ _ _ c.walkable.ensures w.if-walkable.true w.if-from-num_vertices.false
  | else-walkable-via-else-walkable w ↦ unwalked _ _ _ _ _ _ _ _ c.walkable.ensures w.if-walkable.false
]
