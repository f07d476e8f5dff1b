use mir.Facts.{to_z-of_z}
use Rattle.byte_calls.proofs.Numbering.{numbers_read, build_back, built_back}
use borrow.Author.Rules.{rules}
use Rattle.byte_calls.proofs.on_bytes.build.Goals as goal

pub returns : goal.returns
returns c =
    let a = c.args in
    let vs = numbers_read 4288 a.vertices.now _ _ c.no_vertices-vertex_numbers.ensures c.read_numbers.ensures in
    let es = numbers_read 384 a.edges.now _ _ c.no_edges-edge_numbers.ensures c.read_numbers-2.ensures in record { value = build_back _ a.n _ a.m a.state.now _ _ _ vs es c.build_from.ensures.value; built_in = built_back _ a.n _ a.m _ _ _ _ a.state.now _ _ _ vs es (to_z-of_z c.ranges.same_size) (to_z-of_z c.ranges.extra_walls) c.build_from.ensures.built_in }
