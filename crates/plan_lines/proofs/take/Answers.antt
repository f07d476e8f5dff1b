use mathlib.Core.Path.{◌≡◌, refl, sym, ap, ◌∙◌}
use lib.IntN.{ℤ}
use mir.Syntax.{w32}
use mir.Facts.{to_z-of_z}
use borrow.Author.Rules.{rules, sfits_of}
use Rattle.text.specs.declared.Line.{Line}
use Rattle.plan_lines.specs.declared.Counts.{Counts}
use Rattle.plan_lines.specs.Lines.{taken, drafted, vertex_put, edge_put}
use borrow.Author.Rules.{rules}
use Rattle.plan_lines.proofs.Reading.{idle}
use Rattle.plan_lines.proofs.take.Goals as goal

pub returns-in-O : goal.returns-in-O
unfolding taken
returns-in-O c =
    let a = c.args in
    ap (λ (x : Counts). drafted x a.vertices.now a.edges.now) c.with_options.ensures
    ∙ sym (ap (λ (r : Line). taken a.line.now r (drafted a.c a.vertices.now a.edges.now)) c.in-O.is)

pub returns-in-P : goal.returns-in-P
unfolding taken
returns-in-P c =
    let a = c.args in
    let w = to_z-of_z {w = w32} (sfits_of (c.in-P.known_told-in-P-1-own.given.0.1)) in
    (λ i. drafted (c.with_vertex.ensures i) ((c.put_vertex.ensures ∙ ap (λ (x : ℤ). vertex_put a.line.now x c.in-P.sizes c.in-P.count a.c.vertices a.vertices.now) w) i) a.edges.now)
    ∙ sym (ap (λ (r : Line). taken a.line.now r (drafted a.c a.vertices.now a.edges.now)) c.in-P.is)

pub returns-in-G : goal.returns-in-G
unfolding taken
returns-in-G c =
    let a = c.args in
    let k = c.in-G.known_told-in-G-1-own.given in
    let u = to_z-of_z {w = w32} (sfits_of k.0.1) in
    let v = to_z-of_z {w = w32} (sfits_of k.1.0.1) in
    let l = to_z-of_z {w = w32} (sfits_of k.1.1.0.1) in
    (λ i. drafted (c.with_edge.ensures i) a.vertices.now ((c.put_edge.ensures ∙ (λ j. edge_put (u j) (v j) (l j) a.c.edges a.edges.now)) i))
    ∙ sym (ap (λ (r : Line). taken a.line.now r (drafted a.c a.vertices.now a.edges.now)) c.in-G.is)

pub returns-in-V : goal.returns-in-V
returns-in-V c =
    let a = c.args in
    idle a.line.now a.read (drafted a.c a.vertices.now a.edges.now) c.in-V.is
