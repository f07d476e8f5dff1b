-- Document 01's starred cases and its edges are what the program's bytes come to: each case in parts, every part by evaluation.
use mathlib.Core.Path.{◌≡◌, refl, sym, ap, ap₂, subst, ◌∙◌}
use mathlib.Core.Bool.{Bool, true, false}
use mathlib.Core.List.{List, [], ◌∷◌, ◌++◌, map}
use Prim.Native.Nat.{ℕ}
use native.Mathlib.Omega.{arith}
use lib.IntN.{ℤ, pos}
use lib.ListN.{length, drop, replicate, length-append, length-replicate}
use Rattle.base.specs.Iter.{iter, pick}
use Rattle.base.specs.Lists.{some, filled}
use Rattle.base.specs.Range.{in_range, to_nat}
use Rattle.text.specs.Fields.{front, split, lines_of}
use Rattle.text.specs.Number.{none, all_digits, decimal, digits_field, sized, field_of, number_of}
use Rattle.text.specs.Lines.{all_numbers, seen_of, within, shape_o, shape_p, shape_g, shape_v, shape_i, shape_n, shape_u, shape_r, by_letter, asks_last, shaped, read_line, rest, numbers_of, numbers_from, over}
use Rattle.text.specs.Input.{in_order, well_formed}
use Rattle.text_writer.specs.Digits.{digits_of, digits}
use Rattle.text_writer.specs.Written.{tabbed_one, tabbed, answer_line}
use Rattle.plan_lines.specs.Lines.{one_more, as_number, row_put, numbers_put, head_put, lits_put, vertex_put, edge_put, taken, is_plan_line, Reading, reading_of, counts, next_line, reading, taken_lines}
use Rattle.builder.specs.Input.{size_wrong, lit_count_wrong_at, is_vertex, refusal}
use Rattle.builder.specs.Build.{rows, header, given, edge_step, edge_table}
use Rattle.refusals.specs.Calls.{lit_given}
use Rattle.division.specs.Plan.{Plan}
use Rattle.calls.specs.Lines as lines
use Rattle.calls.proofs.Computes.{answers}
use Rattle.graph_division.specs.New.{built}
use Rattle.desk.specs.Start.{no_vertices, no_edges, built_of}
use Rattle.desk.specs.Session.{session}
use Rattle.sessions.specs.Follow.{bytes_of, said, follow, follow_all, begin}
use Rattle.sessions.specs.Stars.{as_bytes, star_inputs, star_outputs, g_in, g_out, a_in, a_out, b_in, b_out, c_in, c_out, c2_in, c2_out, d_in, d_out, d2_in, d2_out, e_in, e_out, e2_in, e2_out, f_in, f_out, h_in, h_out, code_in, code_out, literal_in, literal_out, sizes_in, sizes_out, pens_in, pens_out}
use Rattle.base.proofs.Numbered.{none_with_0}
use Rattle.sessions.proofs.DeskSession.{built_session}
use Rattle.sessions.proofs.Plans.{Parts, Sized, grid, plan_is, words_is, words_length, built_plan}

-- every definition that reading and building rest on, under one name, and what is said
unfoldable reads : Unit {0}
unfolding well_formed in_order lines_of read_line asks_last shaped split front all_numbers seen_of by_letter shape_o shape_p shape_g shape_v shape_i shape_n shape_u shape_r within field_of sized digits_field all_digits decimal number_of none pick iter rest numbers_of numbers_from over one_more as_number row_put numbers_put head_put lits_put vertex_put edge_put taken is_plan_line next_line reading taken_lines no_vertices no_edges size_wrong lit_count_wrong_at is_vertex refusal some filled in_range to_nat rows header given edge_step edge_table
reads = tt

unfoldable says : Unit {0}
unfolding lit_given bytes_of said follow follow_all digits_of digits tabbed_one tabbed answer_line
says = tt

-- a session whose input is taken so and whose plan has these parts
case : (input : List ℕ) (vs : List ℤ) (n : ℕ) (es : List ℤ) (m : ℕ) (p e : Bool) (at : ℕ) (x : Parts) → well_formed input ≡ true →
    taken_lines input no_vertices no_edges ≡ reading_of (counts n m p e) vs es at → refusal vs n es m ≡ 0 → Sized x → given vs n es m p e ≡ words_is x → edge_table es m ≡ x.ends →
    session input ≡ said (follow_all (plan_is x) (lines_of (drop at input)) begin).printed
unfolding built_of built
case input vs n es m p e at x wf t z s g f =
    built_session input (reading_of (counts n m p e) vs es at) wf t (none_with_0 _ z)
    ∙ ap (λ (d : Plan). said (follow_all d (lines_of (drop at input)) begin).printed) (built_plan vs n es m p e x s (words_length x s) z g f)

-- ---- g
unfoldable g_vertices : List ℤ
g_vertices = pos 3 ∷ pos 2 ∷ pos 1 ∷ pos 3 ∷ pos 7 ∷ replicate 62 (pos 0) ++ (pos 4 ∷ pos 2 ∷ pos 1 ∷ pos 4 ∷ pos 7 ∷ pos 2 ∷ replicate 29 (pos 0) ++ (pos 2 ∷ replicate 4185 (pos 0)))

unfoldable g_edges : List ℤ
g_edges = pos 0 ∷ pos 1 ∷ pos 4 ∷ replicate 381 (pos 0)

unfoldable g_parts : Parts
g_parts = record {
  vertices = 2;
  edges = 1;
  same_size = 0;
  extra_walls = 0;
  weights = 3 ∷ 4 ∷ replicate 62 0;
  lens = 2 ∷ 2 ∷ replicate 62 0;
  sizes = 3 ∷ 7 ∷ replicate 30 0 ++ (4 ∷ 7 ∷ replicate 2014 0);
  lits = replicate 32 0 ++ (2 ∷ replicate 2015 0);
  edge_lits = 4 ∷ replicate 127 0;
  ends = (0 ∷ 1 ∷ []) ∷ replicate 127 (0 ∷ 0 ∷ []);
}

g_shape : well_formed g_in ≡ true
unfolding reads as_bytes g_in
g_shape = refl

g_taken : taken_lines g_in no_vertices no_edges ≡ reading_of (counts 2 1 false false) g_vertices g_edges 38
unfolding reads as_bytes g_in g_vertices g_edges
g_taken = refl

g_clean : refusal g_vertices 2 g_edges 1 ≡ 0
unfolding reads g_vertices g_edges
g_clean = refl

g_given : given g_vertices 2 g_edges 1 false false ≡ words_is g_parts
unfolding reads g_vertices g_edges g_parts words_is
g_given = refl

g_ends : edge_table g_edges 1 ≡ g_parts.ends
unfolding reads g_edges g_parts
g_ends = refl

g_sized : Sized g_parts
unfolding g_parts
g_sized = record { weights = refl; lens = refl; sizes = refl; lits = refl; edge_lits = refl }

g_said : said (follow_all (plan_is g_parts) (lines_of (drop 38 g_in)) begin).printed ≡ g_out
unfolding reads as_bytes g_in g_out g_parts plan_is grid says answers
g_said = refl

pub star_g : session g_in ≡ g_out
star_g = case g_in g_vertices 2 g_edges 1 false false 38 g_parts g_shape g_taken g_clean g_sized g_given g_ends ∙ g_said

-- ---- a
unfoldable a_vertices : List ℤ
a_vertices = replicate 4288 (pos 0)

unfoldable a_edges : List ℤ
a_edges = replicate 384 (pos 0)

unfoldable a_parts : Parts
a_parts = record {
  vertices = 0;
  edges = 0;
  same_size = 0;
  extra_walls = 0;
  weights = replicate 64 0;
  lens = replicate 64 0;
  sizes = replicate 2048 0;
  lits = replicate 2048 0;
  edge_lits = replicate 128 0;
  ends = replicate 128 (0 ∷ 0 ∷ []);
}

a_shape : well_formed a_in ≡ true
unfolding reads as_bytes a_in
a_shape = refl

a_taken : taken_lines a_in no_vertices no_edges ≡ reading_of (counts 0 0 false false) a_vertices a_edges 0
unfolding reads as_bytes a_in a_vertices a_edges
a_taken = refl

a_clean : refusal a_vertices 0 a_edges 0 ≡ 0
unfolding reads a_vertices a_edges
a_clean = refl

a_given : given a_vertices 0 a_edges 0 false false ≡ words_is a_parts
unfolding reads a_vertices a_edges a_parts words_is
a_given = refl

a_ends : edge_table a_edges 0 ≡ a_parts.ends
unfolding reads a_edges a_parts
a_ends = refl

a_sized : Sized a_parts
unfolding a_parts
a_sized = record { weights = refl; lens = refl; sizes = refl; lits = refl; edge_lits = refl }

a_said : said (follow_all (plan_is a_parts) (lines_of (drop 0 a_in)) begin).printed ≡ a_out
unfolding reads as_bytes a_in a_out a_parts plan_is grid says answers
a_said = refl

pub star_a : session a_in ≡ a_out
star_a = case a_in a_vertices 0 a_edges 0 false false 0 a_parts a_shape a_taken a_clean a_sized a_given a_ends ∙ a_said

-- ---- b
unfoldable b_vertices : List ℤ
b_vertices = pos 3 ∷ pos 1 ∷ pos 0 ∷ pos 2 ∷ replicate 4284 (pos 0)

unfoldable b_edges : List ℤ
b_edges = replicate 384 (pos 0)

unfoldable b_parts : Parts
b_parts = record {
  vertices = 1;
  edges = 0;
  same_size = 0;
  extra_walls = 0;
  weights = 3 ∷ replicate 63 0;
  lens = 1 ∷ replicate 63 0;
  sizes = 2 ∷ replicate 2047 0;
  lits = replicate 2048 0;
  edge_lits = replicate 128 0;
  ends = replicate 128 (0 ∷ 0 ∷ []);
}

b_shape : well_formed b_in ≡ true
unfolding reads as_bytes b_in
b_shape = refl

b_taken : taken_lines b_in no_vertices no_edges ≡ reading_of (counts 1 0 false false) b_vertices b_edges 8
unfolding reads as_bytes b_in b_vertices b_edges
b_taken = refl

b_clean : refusal b_vertices 1 b_edges 0 ≡ 0
unfolding reads b_vertices b_edges
b_clean = refl

b_given : given b_vertices 1 b_edges 0 false false ≡ words_is b_parts
unfolding reads b_vertices b_edges b_parts words_is
b_given = refl

b_ends : edge_table b_edges 0 ≡ b_parts.ends
unfolding reads b_edges b_parts
b_ends = refl

b_sized : Sized b_parts
unfolding b_parts
b_sized = record { weights = refl; lens = refl; sizes = refl; lits = refl; edge_lits = refl }

b_said : said (follow_all (plan_is b_parts) (lines_of (drop 8 b_in)) begin).printed ≡ b_out
unfolding reads as_bytes b_in b_out b_parts plan_is grid says answers
b_said = refl

pub star_b : session b_in ≡ b_out
star_b = case b_in b_vertices 1 b_edges 0 false false 8 b_parts b_shape b_taken b_clean b_sized b_given b_ends ∙ b_said

-- ---- c
unfoldable c_vertices : List ℤ
c_vertices = pos 3 ∷ pos 1 ∷ pos 0 ∷ pos 4 ∷ replicate 4284 (pos 0)

unfoldable c_edges : List ℤ
c_edges = replicate 384 (pos 0)

unfoldable c_parts : Parts
c_parts = record {
  vertices = 1;
  edges = 0;
  same_size = 0;
  extra_walls = 0;
  weights = 3 ∷ replicate 63 0;
  lens = 1 ∷ replicate 63 0;
  sizes = 4 ∷ replicate 2047 0;
  lits = replicate 2048 0;
  edge_lits = replicate 128 0;
  ends = replicate 128 (0 ∷ 0 ∷ []);
}

c_shape : well_formed c_in ≡ true
unfolding reads as_bytes c_in
c_shape = refl

c_taken : taken_lines c_in no_vertices no_edges ≡ reading_of (counts 1 0 false false) c_vertices c_edges 8
unfolding reads as_bytes c_in c_vertices c_edges
c_taken = refl

c_clean : refusal c_vertices 1 c_edges 0 ≡ 0
unfolding reads c_vertices c_edges
c_clean = refl

c_given : given c_vertices 1 c_edges 0 false false ≡ words_is c_parts
unfolding reads c_vertices c_edges c_parts words_is
c_given = refl

c_ends : edge_table c_edges 0 ≡ c_parts.ends
unfolding reads c_edges c_parts
c_ends = refl

c_sized : Sized c_parts
unfolding c_parts
c_sized = record { weights = refl; lens = refl; sizes = refl; lits = refl; edge_lits = refl }

c_said : said (follow_all (plan_is c_parts) (lines_of (drop 8 c_in)) begin).printed ≡ c_out
unfolding reads as_bytes c_in c_out c_parts plan_is grid says answers
c_said = refl

pub star_c : session c_in ≡ c_out
star_c = case c_in c_vertices 1 c_edges 0 false false 8 c_parts c_shape c_taken c_clean c_sized c_given c_ends ∙ c_said

-- ---- c2
unfoldable c2_vertices : List ℤ
c2_vertices = pos 3 ∷ pos 1 ∷ pos 0 ∷ pos 3 ∷ replicate 4284 (pos 0)

unfoldable c2_edges : List ℤ
c2_edges = replicate 384 (pos 0)

unfoldable c2_parts : Parts
c2_parts = record {
  vertices = 1;
  edges = 0;
  same_size = 0;
  extra_walls = 0;
  weights = 3 ∷ replicate 63 0;
  lens = 1 ∷ replicate 63 0;
  sizes = 3 ∷ replicate 2047 0;
  lits = replicate 2048 0;
  edge_lits = replicate 128 0;
  ends = replicate 128 (0 ∷ 0 ∷ []);
}

c2_shape : well_formed c2_in ≡ true
unfolding reads as_bytes c2_in
c2_shape = refl

c2_taken : taken_lines c2_in no_vertices no_edges ≡ reading_of (counts 1 0 false false) c2_vertices c2_edges 8
unfolding reads as_bytes c2_in c2_vertices c2_edges
c2_taken = refl

c2_clean : refusal c2_vertices 1 c2_edges 0 ≡ 0
unfolding reads c2_vertices c2_edges
c2_clean = refl

c2_given : given c2_vertices 1 c2_edges 0 false false ≡ words_is c2_parts
unfolding reads c2_vertices c2_edges c2_parts words_is
c2_given = refl

c2_ends : edge_table c2_edges 0 ≡ c2_parts.ends
unfolding reads c2_edges c2_parts
c2_ends = refl

c2_sized : Sized c2_parts
unfolding c2_parts
c2_sized = record { weights = refl; lens = refl; sizes = refl; lits = refl; edge_lits = refl }

c2_said : said (follow_all (plan_is c2_parts) (lines_of (drop 8 c2_in)) begin).printed ≡ c2_out
unfolding reads as_bytes c2_in c2_out c2_parts plan_is grid says answers
c2_said = refl

pub star_c2 : session c2_in ≡ c2_out
star_c2 = case c2_in c2_vertices 1 c2_edges 0 false false 8 c2_parts c2_shape c2_taken c2_clean c2_sized c2_given c2_ends ∙ c2_said

-- ---- d
unfoldable d_vertices : List ℤ
d_vertices = pos 1 ∷ replicate 4287 (pos 0)

unfoldable d_edges : List ℤ
d_edges = replicate 384 (pos 0)

unfoldable d_parts : Parts
d_parts = record {
  vertices = 1;
  edges = 1;
  same_size = 0;
  extra_walls = 0;
  weights = 1 ∷ replicate 63 0;
  lens = replicate 64 0;
  sizes = replicate 2048 0;
  lits = replicate 2048 0;
  edge_lits = replicate 128 0;
  ends = (0 ∷ 0 ∷ []) ∷ replicate 127 (0 ∷ 0 ∷ []);
}

d_shape : well_formed d_in ≡ true
unfolding reads as_bytes d_in
d_shape = refl

d_taken : taken_lines d_in no_vertices no_edges ≡ reading_of (counts 1 1 false false) d_vertices d_edges 14
unfolding reads as_bytes d_in d_vertices d_edges
d_taken = refl

d_clean : refusal d_vertices 1 d_edges 1 ≡ 0
unfolding reads d_vertices d_edges
d_clean = refl

d_given : given d_vertices 1 d_edges 1 false false ≡ words_is d_parts
unfolding reads d_vertices d_edges d_parts words_is
d_given = refl

d_ends : edge_table d_edges 1 ≡ d_parts.ends
unfolding reads d_edges d_parts
d_ends = refl

d_sized : Sized d_parts
unfolding d_parts
d_sized = record { weights = refl; lens = refl; sizes = refl; lits = refl; edge_lits = refl }

d_said : said (follow_all (plan_is d_parts) (lines_of (drop 14 d_in)) begin).printed ≡ d_out
unfolding reads as_bytes d_in d_out d_parts plan_is grid says answers
d_said = refl

pub star_d : session d_in ≡ d_out
star_d = case d_in d_vertices 1 d_edges 1 false false 14 d_parts d_shape d_taken d_clean d_sized d_given d_ends ∙ d_said

-- ---- d2
unfoldable d2_vertices : List ℤ
d2_vertices = pos 1 ∷ replicate 4287 (pos 0)

unfoldable d2_edges : List ℤ
d2_edges = replicate 384 (pos 0)

unfoldable d2_parts : Parts
d2_parts = record {
  vertices = 1;
  edges = 1;
  same_size = 0;
  extra_walls = 0;
  weights = 1 ∷ replicate 63 0;
  lens = replicate 64 0;
  sizes = replicate 2048 0;
  lits = replicate 2048 0;
  edge_lits = replicate 128 0;
  ends = (0 ∷ 0 ∷ []) ∷ replicate 127 (0 ∷ 0 ∷ []);
}

d2_shape : well_formed d2_in ≡ true
unfolding reads as_bytes d2_in
d2_shape = refl

d2_taken : taken_lines d2_in no_vertices no_edges ≡ reading_of (counts 1 1 false false) d2_vertices d2_edges 14
unfolding reads as_bytes d2_in d2_vertices d2_edges
d2_taken = refl

d2_clean : refusal d2_vertices 1 d2_edges 1 ≡ 0
unfolding reads d2_vertices d2_edges
d2_clean = refl

d2_given : given d2_vertices 1 d2_edges 1 false false ≡ words_is d2_parts
unfolding reads d2_vertices d2_edges d2_parts words_is
d2_given = refl

d2_ends : edge_table d2_edges 1 ≡ d2_parts.ends
unfolding reads d2_edges d2_parts
d2_ends = refl

d2_sized : Sized d2_parts
unfolding d2_parts
d2_sized = record { weights = refl; lens = refl; sizes = refl; lits = refl; edge_lits = refl }

d2_said : said (follow_all (plan_is d2_parts) (lines_of (drop 14 d2_in)) begin).printed ≡ d2_out
unfolding reads as_bytes d2_in d2_out d2_parts plan_is grid says answers
d2_said = refl

pub star_d2 : session d2_in ≡ d2_out
star_d2 = case d2_in d2_vertices 1 d2_edges 1 false false 14 d2_parts d2_shape d2_taken d2_clean d2_sized d2_given d2_ends ∙ d2_said

-- ---- e
unfoldable e_vertices : List ℤ
e_vertices = pos 1 ∷ replicate 66 (pos 0) ++ (pos 1 ∷ replicate 4220 (pos 0))

unfoldable e_edges : List ℤ
e_edges = pos 0 ∷ pos 1 ∷ pos 0 ∷ pos 0 ∷ pos 1 ∷ pos 2 ∷ replicate 378 (pos 0)

unfoldable e_parts : Parts
e_parts = record {
  vertices = 2;
  edges = 2;
  same_size = 0;
  extra_walls = 0;
  weights = 1 ∷ 1 ∷ replicate 62 0;
  lens = replicate 64 0;
  sizes = replicate 2048 0;
  lits = replicate 2048 0;
  edge_lits = 0 ∷ 2 ∷ replicate 126 0;
  ends = (0 ∷ 1 ∷ []) ∷ (0 ∷ 1 ∷ []) ∷ replicate 126 (0 ∷ 0 ∷ []);
}

e_shape : well_formed e_in ≡ true
unfolding reads as_bytes e_in
e_shape = refl

e_taken : taken_lines e_in no_vertices no_edges ≡ reading_of (counts 2 2 false false) e_vertices e_edges 28
unfolding reads as_bytes e_in e_vertices e_edges
e_taken = refl

e_clean : refusal e_vertices 2 e_edges 2 ≡ 0
unfolding reads e_vertices e_edges
e_clean = refl

e_given : given e_vertices 2 e_edges 2 false false ≡ words_is e_parts
unfolding reads e_vertices e_edges e_parts words_is
e_given = refl

e_ends : edge_table e_edges 2 ≡ e_parts.ends
unfolding reads e_edges e_parts
e_ends = refl

e_sized : Sized e_parts
unfolding e_parts
e_sized = record { weights = refl; lens = refl; sizes = refl; lits = refl; edge_lits = refl }

e_said : said (follow_all (plan_is e_parts) (lines_of (drop 28 e_in)) begin).printed ≡ e_out
unfolding reads as_bytes e_in e_out e_parts plan_is grid says answers
e_said = refl

pub star_e : session e_in ≡ e_out
star_e = case e_in e_vertices 2 e_edges 2 false false 28 e_parts e_shape e_taken e_clean e_sized e_given e_ends ∙ e_said

-- ---- e2
unfoldable e2_vertices : List ℤ
e2_vertices = pos 1 ∷ replicate 66 (pos 0) ++ (pos 1 ∷ replicate 4220 (pos 0))

unfoldable e2_edges : List ℤ
e2_edges = pos 0 ∷ pos 1 ∷ pos 0 ∷ pos 0 ∷ pos 1 ∷ pos 2 ∷ replicate 378 (pos 0)

unfoldable e2_parts : Parts
e2_parts = record {
  vertices = 2;
  edges = 2;
  same_size = 0;
  extra_walls = 0;
  weights = 1 ∷ 1 ∷ replicate 62 0;
  lens = replicate 64 0;
  sizes = replicate 2048 0;
  lits = replicate 2048 0;
  edge_lits = 0 ∷ 2 ∷ replicate 126 0;
  ends = (0 ∷ 1 ∷ []) ∷ (0 ∷ 1 ∷ []) ∷ replicate 126 (0 ∷ 0 ∷ []);
}

e2_shape : well_formed e2_in ≡ true
unfolding reads as_bytes e2_in
e2_shape = refl

e2_taken : taken_lines e2_in no_vertices no_edges ≡ reading_of (counts 2 2 false false) e2_vertices e2_edges 28
unfolding reads as_bytes e2_in e2_vertices e2_edges
e2_taken = refl

e2_clean : refusal e2_vertices 2 e2_edges 2 ≡ 0
unfolding reads e2_vertices e2_edges
e2_clean = refl

e2_given : given e2_vertices 2 e2_edges 2 false false ≡ words_is e2_parts
unfolding reads e2_vertices e2_edges e2_parts words_is
e2_given = refl

e2_ends : edge_table e2_edges 2 ≡ e2_parts.ends
unfolding reads e2_edges e2_parts
e2_ends = refl

e2_sized : Sized e2_parts
unfolding e2_parts
e2_sized = record { weights = refl; lens = refl; sizes = refl; lits = refl; edge_lits = refl }

e2_said : said (follow_all (plan_is e2_parts) (lines_of (drop 28 e2_in)) begin).printed ≡ e2_out
unfolding reads as_bytes e2_in e2_out e2_parts plan_is grid says answers
e2_said = refl

pub star_e2 : session e2_in ≡ e2_out
star_e2 = case e2_in e2_vertices 2 e2_edges 2 false false 28 e2_parts e2_shape e2_taken e2_clean e2_sized e2_given e2_ends ∙ e2_said

-- ---- f
unfoldable f_vertices : List ℤ
f_vertices = pos 1 ∷ replicate 66 (pos 0) ++ (pos 1 ∷ replicate 4220 (pos 0))

unfoldable f_edges : List ℤ
f_edges = pos 0 ∷ pos 1 ∷ pos 0 ∷ pos 0 ∷ pos 1 ∷ pos 2 ∷ replicate 378 (pos 0)

unfoldable f_parts : Parts
f_parts = record {
  vertices = 2;
  edges = 2;
  same_size = 0;
  extra_walls = 0;
  weights = 1 ∷ 1 ∷ replicate 62 0;
  lens = replicate 64 0;
  sizes = replicate 2048 0;
  lits = replicate 2048 0;
  edge_lits = 0 ∷ 2 ∷ replicate 126 0;
  ends = (0 ∷ 1 ∷ []) ∷ (0 ∷ 1 ∷ []) ∷ replicate 126 (0 ∷ 0 ∷ []);
}

f_shape : well_formed f_in ≡ true
unfolding reads as_bytes f_in
f_shape = refl

f_taken : taken_lines f_in no_vertices no_edges ≡ reading_of (counts 2 2 false false) f_vertices f_edges 28
unfolding reads as_bytes f_in f_vertices f_edges
f_taken = refl

f_clean : refusal f_vertices 2 f_edges 2 ≡ 0
unfolding reads f_vertices f_edges
f_clean = refl

f_given : given f_vertices 2 f_edges 2 false false ≡ words_is f_parts
unfolding reads f_vertices f_edges f_parts words_is
f_given = refl

f_ends : edge_table f_edges 2 ≡ f_parts.ends
unfolding reads f_edges f_parts
f_ends = refl

f_sized : Sized f_parts
unfolding f_parts
f_sized = record { weights = refl; lens = refl; sizes = refl; lits = refl; edge_lits = refl }

f_said : said (follow_all (plan_is f_parts) (lines_of (drop 28 f_in)) begin).printed ≡ f_out
unfolding reads as_bytes f_in f_out f_parts plan_is grid says answers
f_said = refl

pub star_f : session f_in ≡ f_out
star_f = case f_in f_vertices 2 f_edges 2 false false 28 f_parts f_shape f_taken f_clean f_sized f_given f_ends ∙ f_said

-- ---- h
unfoldable h_vertices : List ℤ
h_vertices = pos 2 ∷ pos 1 ∷ pos 0 ∷ pos 2 ∷ replicate 63 (pos 0) ++ (pos 3 ∷ pos 1 ∷ pos 0 ∷ pos 4 ∷ replicate 4217 (pos 0))

unfoldable h_edges : List ℤ
h_edges = pos 0 ∷ pos 1 ∷ replicate 382 (pos 0)

unfoldable h_parts : Parts
h_parts = record {
  vertices = 2;
  edges = 1;
  same_size = 0;
  extra_walls = 0;
  weights = 2 ∷ 3 ∷ replicate 62 0;
  lens = 1 ∷ 1 ∷ replicate 62 0;
  sizes = 2 ∷ replicate 31 0 ++ (4 ∷ replicate 2015 0);
  lits = replicate 2048 0;
  edge_lits = replicate 128 0;
  ends = (0 ∷ 1 ∷ []) ∷ replicate 127 (0 ∷ 0 ∷ []);
}

h_shape : well_formed h_in ≡ true
unfolding reads as_bytes h_in
h_shape = refl

h_taken : taken_lines h_in no_vertices no_edges ≡ reading_of (counts 2 1 false false) h_vertices h_edges 24
unfolding reads as_bytes h_in h_vertices h_edges
h_taken = refl

h_clean : refusal h_vertices 2 h_edges 1 ≡ 0
unfolding reads h_vertices h_edges
h_clean = refl

h_given : given h_vertices 2 h_edges 1 false false ≡ words_is h_parts
unfolding reads h_vertices h_edges h_parts words_is
h_given = refl

h_ends : edge_table h_edges 1 ≡ h_parts.ends
unfolding reads h_edges h_parts
h_ends = refl

h_sized : Sized h_parts
unfolding h_parts
h_sized = record { weights = refl; lens = refl; sizes = refl; lits = refl; edge_lits = refl }

h_said : said (follow_all (plan_is h_parts) (lines_of (drop 24 h_in)) begin).printed ≡ h_out
unfolding reads as_bytes h_in h_out h_parts plan_is grid says answers
h_said = refl

pub star_h : session h_in ≡ h_out
star_h = case h_in h_vertices 2 h_edges 1 false false 24 h_parts h_shape h_taken h_clean h_sized h_given h_ends ∙ h_said

-- ---- code
unfoldable code_vertices : List ℤ
code_vertices = pos 1 ∷ replicate 66 (pos 0) ++ (pos 1 ∷ replicate 4220 (pos 0))

unfoldable code_edges : List ℤ
code_edges = pos 0 ∷ pos 1 ∷ replicate 382 (pos 0)

unfoldable code_parts : Parts
code_parts = record {
  vertices = 2;
  edges = 1;
  same_size = 0;
  extra_walls = 0;
  weights = 1 ∷ 1 ∷ replicate 62 0;
  lens = replicate 64 0;
  sizes = replicate 2048 0;
  lits = replicate 2048 0;
  edge_lits = replicate 128 0;
  ends = (0 ∷ 1 ∷ []) ∷ replicate 127 (0 ∷ 0 ∷ []);
}

code_shape : well_formed code_in ≡ true
unfolding reads as_bytes code_in
code_shape = refl

code_taken : taken_lines code_in no_vertices no_edges ≡ reading_of (counts 2 1 false false) code_vertices code_edges 20
unfolding reads as_bytes code_in code_vertices code_edges
code_taken = refl

code_clean : refusal code_vertices 2 code_edges 1 ≡ 0
unfolding reads code_vertices code_edges
code_clean = refl

code_given : given code_vertices 2 code_edges 1 false false ≡ words_is code_parts
unfolding reads code_vertices code_edges code_parts words_is
code_given = refl

code_ends : edge_table code_edges 1 ≡ code_parts.ends
unfolding reads code_edges code_parts
code_ends = refl

code_sized : Sized code_parts
unfolding code_parts
code_sized = record { weights = refl; lens = refl; sizes = refl; lits = refl; edge_lits = refl }

code_said : said (follow_all (plan_is code_parts) (lines_of (drop 20 code_in)) begin).printed ≡ code_out
unfolding reads as_bytes code_in code_out code_parts plan_is grid says answers
code_said = refl

pub star_code : session code_in ≡ code_out
star_code = case code_in code_vertices 2 code_edges 1 false false 20 code_parts code_shape code_taken code_clean code_sized code_given code_ends ∙ code_said

-- ---- literal
unfoldable literal_vertices : List ℤ
literal_vertices = pos 1 ∷ replicate 66 (pos 0) ++ (pos 1 ∷ replicate 4220 (pos 0))

unfoldable literal_edges : List ℤ
literal_edges = pos 0 ∷ pos 1 ∷ pos 8191 ∷ replicate 381 (pos 0)

unfoldable literal_parts : Parts
literal_parts = record {
  vertices = 2;
  edges = 1;
  same_size = 0;
  extra_walls = 0;
  weights = 1 ∷ 1 ∷ replicate 62 0;
  lens = replicate 64 0;
  sizes = replicate 2048 0;
  lits = replicate 2048 0;
  edge_lits = 8191 ∷ replicate 127 0;
  ends = (0 ∷ 1 ∷ []) ∷ replicate 127 (0 ∷ 0 ∷ []);
}

literal_shape : well_formed literal_in ≡ true
unfolding reads as_bytes literal_in
literal_shape = refl

literal_taken : taken_lines literal_in no_vertices no_edges ≡ reading_of (counts 2 1 false false) literal_vertices literal_edges 23
unfolding reads as_bytes literal_in literal_vertices literal_edges
literal_taken = refl

literal_clean : refusal literal_vertices 2 literal_edges 1 ≡ 0
unfolding reads literal_vertices literal_edges
literal_clean = refl

literal_given : given literal_vertices 2 literal_edges 1 false false ≡ words_is literal_parts
unfolding reads literal_vertices literal_edges literal_parts words_is
literal_given = refl

literal_ends : edge_table literal_edges 1 ≡ literal_parts.ends
unfolding reads literal_edges literal_parts
literal_ends = refl

literal_sized : Sized literal_parts
unfolding literal_parts
literal_sized = record { weights = refl; lens = refl; sizes = refl; lits = refl; edge_lits = refl }

literal_said : said (follow_all (plan_is literal_parts) (lines_of (drop 23 literal_in)) begin).printed ≡ literal_out
unfolding reads as_bytes literal_in literal_out literal_parts plan_is grid says answers
literal_said = refl

pub star_literal : session literal_in ≡ literal_out
star_literal = case literal_in literal_vertices 2 literal_edges 1 false false 23 literal_parts literal_shape literal_taken literal_clean literal_sized literal_given literal_ends ∙ literal_said

-- ---- sizes
unfoldable sizes_vertices : List ℤ
sizes_vertices = pos 1 ∷ pos 32 ∷ pos 31 ∷ pos 1 ∷ pos 2 ∷ pos 3 ∷ pos 4 ∷ pos 5 ∷ pos 6 ∷ pos 7 ∷ pos 8 ∷ pos 9 ∷ pos 10 ∷ pos 11 ∷ pos 12 ∷ pos 13 ∷ pos 14 ∷ pos 15 ∷ pos 16 ∷ pos 17 ∷ pos 18 ∷ pos 19 ∷ pos 20 ∷ pos 21 ∷ pos 22 ∷ pos 23 ∷ pos 24 ∷ pos 25 ∷ pos 26 ∷ pos 27 ∷ pos 28 ∷ pos 29 ∷ pos 30 ∷ pos 31 ∷ pos 32 ∷ pos 0 ∷ pos 2 ∷ pos 4 ∷ pos 6 ∷ pos 8 ∷ pos 10 ∷ pos 12 ∷ pos 14 ∷ pos 16 ∷ pos 18 ∷ pos 20 ∷ pos 22 ∷ pos 24 ∷ pos 26 ∷ pos 28 ∷ pos 30 ∷ pos 32 ∷ pos 34 ∷ pos 36 ∷ pos 38 ∷ pos 40 ∷ pos 42 ∷ pos 44 ∷ pos 46 ∷ pos 48 ∷ pos 50 ∷ pos 52 ∷ pos 54 ∷ pos 56 ∷ pos 58 ∷ pos 60 ∷ replicate 4222 (pos 0)

unfoldable sizes_edges : List ℤ
sizes_edges = replicate 384 (pos 0)

unfoldable sizes_parts : Parts
sizes_parts = record {
  vertices = 1;
  edges = 0;
  same_size = 0;
  extra_walls = 0;
  weights = 1 ∷ replicate 63 0;
  lens = 32 ∷ replicate 63 0;
  sizes = 1 ∷ 2 ∷ 3 ∷ 4 ∷ 5 ∷ 6 ∷ 7 ∷ 8 ∷ 9 ∷ 10 ∷ 11 ∷ 12 ∷ 13 ∷ 14 ∷ 15 ∷ 16 ∷ 17 ∷ 18 ∷ 19 ∷ 20 ∷ 21 ∷ 22 ∷ 23 ∷ 24 ∷ 25 ∷ 26 ∷ 27 ∷ 28 ∷ 29 ∷ 30 ∷ 31 ∷ 32 ∷ replicate 2016 0;
  lits = 0 ∷ 2 ∷ 4 ∷ 6 ∷ 8 ∷ 10 ∷ 12 ∷ 14 ∷ 16 ∷ 18 ∷ 20 ∷ 22 ∷ 24 ∷ 26 ∷ 28 ∷ 30 ∷ 32 ∷ 34 ∷ 36 ∷ 38 ∷ 40 ∷ 42 ∷ 44 ∷ 46 ∷ 48 ∷ 50 ∷ 52 ∷ 54 ∷ 56 ∷ 58 ∷ 60 ∷ replicate 2017 0;
  edge_lits = replicate 128 0;
  ends = replicate 128 (0 ∷ 0 ∷ []);
}

sizes_shape : well_formed sizes_in ≡ true
unfolding reads as_bytes sizes_in
sizes_shape = refl

sizes_taken : taken_lines sizes_in no_vertices no_edges ≡ reading_of (counts 1 0 false false) sizes_vertices sizes_edges 182
unfolding reads as_bytes sizes_in sizes_vertices sizes_edges
sizes_taken = refl

sizes_clean : refusal sizes_vertices 1 sizes_edges 0 ≡ 0
unfolding reads sizes_vertices sizes_edges
sizes_clean = refl

sizes_given : given sizes_vertices 1 sizes_edges 0 false false ≡ words_is sizes_parts
unfolding reads sizes_vertices sizes_edges sizes_parts words_is
sizes_given = refl

sizes_ends : edge_table sizes_edges 0 ≡ sizes_parts.ends
unfolding reads sizes_edges sizes_parts
sizes_ends = refl

sizes_sized : Sized sizes_parts
unfolding sizes_parts
sizes_sized = record { weights = refl; lens = refl; sizes = refl; lits = refl; edge_lits = refl }

sizes_said : said (follow_all (plan_is sizes_parts) (lines_of (drop 182 sizes_in)) begin).printed ≡ sizes_out
unfolding reads as_bytes sizes_in sizes_out sizes_parts plan_is grid says answers
sizes_said = refl

pub star_sizes : session sizes_in ≡ sizes_out
star_sizes = case sizes_in sizes_vertices 1 sizes_edges 0 false false 182 sizes_parts sizes_shape sizes_taken sizes_clean sizes_sized sizes_given sizes_ends ∙ sizes_said

-- ---- pens
unfoldable pens_vertices : List ℤ
pens_vertices = replicate 4288 (pos 0)

unfoldable pens_edges : List ℤ
pens_edges = replicate 384 (pos 0)

unfoldable pens_parts : Parts
pens_parts = record {
  vertices = 64;
  edges = 0;
  same_size = 0;
  extra_walls = 0;
  weights = replicate 64 0;
  lens = replicate 64 0;
  sizes = replicate 2048 0;
  lits = replicate 2048 0;
  edge_lits = replicate 128 0;
  ends = replicate 128 (0 ∷ 0 ∷ []);
}

pens_shape : well_formed pens_in ≡ true
unfolding reads as_bytes pens_in
pens_shape = refl

-- eight pens at a time
unfoldable eight : List (List ℕ)
eight = (80 ∷ 9 ∷ 48 ∷ 9 ∷ 48 ∷ []) ∷ (80 ∷ 9 ∷ 48 ∷ 9 ∷ 48 ∷ []) ∷ (80 ∷ 9 ∷ 48 ∷ 9 ∷ 48 ∷ []) ∷ (80 ∷ 9 ∷ 48 ∷ 9 ∷ 48 ∷ []) ∷ (80 ∷ 9 ∷ 48 ∷ 9 ∷ 48 ∷ []) ∷ (80 ∷ 9 ∷ 48 ∷ 9 ∷ 48 ∷ []) ∷ (80 ∷ 9 ∷ 48 ∷ 9 ∷ 48 ∷ []) ∷ (80 ∷ 9 ∷ 48 ∷ 9 ∷ 48 ∷ []) ∷ []

pens_0 : (ls : List (List ℕ)) → reading 386 (eight ++ ls) (reading_of (counts 0 0 false false) (replicate 4288 (pos 0)) (replicate 384 (pos 0)) 0) ≡ reading 386 ls (reading_of (counts 8 0 false false) (replicate 4288 (pos 0)) (replicate 384 (pos 0)) 48)
unfolding reads eight
pens_0 ls = refl

pens_8 : (ls : List (List ℕ)) → reading 386 (eight ++ ls) (reading_of (counts 8 0 false false) (replicate 4288 (pos 0)) (replicate 384 (pos 0)) 48) ≡ reading 386 ls (reading_of (counts 16 0 false false) (replicate 4288 (pos 0)) (replicate 384 (pos 0)) 96)
unfolding reads eight
pens_8 ls = refl

pens_16 : (ls : List (List ℕ)) → reading 386 (eight ++ ls) (reading_of (counts 16 0 false false) (replicate 4288 (pos 0)) (replicate 384 (pos 0)) 96) ≡ reading 386 ls (reading_of (counts 24 0 false false) (replicate 4288 (pos 0)) (replicate 384 (pos 0)) 144)
unfolding reads eight
pens_16 ls = refl

pens_24 : (ls : List (List ℕ)) → reading 386 (eight ++ ls) (reading_of (counts 24 0 false false) (replicate 4288 (pos 0)) (replicate 384 (pos 0)) 144) ≡ reading 386 ls (reading_of (counts 32 0 false false) (replicate 4288 (pos 0)) (replicate 384 (pos 0)) 192)
unfolding reads eight
pens_24 ls = refl

pens_32 : (ls : List (List ℕ)) → reading 386 (eight ++ ls) (reading_of (counts 32 0 false false) (replicate 4288 (pos 0)) (replicate 384 (pos 0)) 192) ≡ reading 386 ls (reading_of (counts 40 0 false false) (replicate 4288 (pos 0)) (replicate 384 (pos 0)) 240)
unfolding reads eight
pens_32 ls = refl

pens_40 : (ls : List (List ℕ)) → reading 386 (eight ++ ls) (reading_of (counts 40 0 false false) (replicate 4288 (pos 0)) (replicate 384 (pos 0)) 240) ≡ reading 386 ls (reading_of (counts 48 0 false false) (replicate 4288 (pos 0)) (replicate 384 (pos 0)) 288)
unfolding reads eight
pens_40 ls = refl

pens_48 : (ls : List (List ℕ)) → reading 386 (eight ++ ls) (reading_of (counts 48 0 false false) (replicate 4288 (pos 0)) (replicate 384 (pos 0)) 288) ≡ reading 386 ls (reading_of (counts 56 0 false false) (replicate 4288 (pos 0)) (replicate 384 (pos 0)) 336)
unfolding reads eight
pens_48 ls = refl

pens_56 : (ls : List (List ℕ)) → reading 386 (eight ++ ls) (reading_of (counts 56 0 false false) (replicate 4288 (pos 0)) (replicate 384 (pos 0)) 336) ≡ reading 386 ls (reading_of (counts 64 0 false false) (replicate 4288 (pos 0)) (replicate 384 (pos 0)) 384)
unfolding reads eight
pens_56 ls = refl

pens_lines : lines_of pens_in ≡ eight ++ (eight ++ (eight ++ (eight ++ (eight ++ (eight ++ (eight ++ (eight ++ ((73 ∷ []) ∷ []))))))))
unfolding lines_of front pick as_bytes pens_in eight
pens_lines = refl

pens_end : reading 386 ((73 ∷ []) ∷ []) (reading_of (counts 64 0 false false) (replicate 4288 (pos 0)) (replicate 384 (pos 0)) 384) ≡ (reading_of (counts 64 0 false false) (replicate 4288 (pos 0)) (replicate 384 (pos 0)) 384)
unfolding reads
pens_end = refl

pens_taken : taken_lines pens_in no_vertices no_edges ≡ reading_of (counts 64 0 false false) pens_vertices pens_edges 384
unfolding taken_lines no_vertices no_edges as_bytes pens_in pens_vertices pens_edges
pens_taken = ap (λ (ls : List (List ℕ)). reading 386 ls (reading_of (counts 0 0 false false) (replicate 4288 (pos 0)) (replicate 384 (pos 0)) 0)) pens_lines ∙ pens_0 _ ∙ pens_8 _ ∙ pens_16 _ ∙ pens_24 _ ∙ pens_32 _ ∙ pens_40 _ ∙ pens_48 _ ∙ pens_56 _ ∙ pens_end

pens_clean : refusal pens_vertices 64 pens_edges 0 ≡ 0
unfolding reads pens_vertices pens_edges
pens_clean = refl

pens_given : given pens_vertices 64 pens_edges 0 false false ≡ words_is pens_parts
unfolding reads pens_vertices pens_edges pens_parts words_is
pens_given = refl

pens_ends : edge_table pens_edges 0 ≡ pens_parts.ends
unfolding reads pens_edges pens_parts
pens_ends = refl

pens_sized : Sized pens_parts
unfolding pens_parts
pens_sized = record { weights = refl; lens = refl; sizes = refl; lits = refl; edge_lits = refl }

pens_said : said (follow_all (plan_is pens_parts) (lines_of (drop 384 pens_in)) begin).printed ≡ pens_out
unfolding reads as_bytes pens_in pens_out pens_parts plan_is grid says answers
pens_said = refl

pub star_pens : session pens_in ≡ pens_out
star_pens = case pens_in pens_vertices 64 pens_edges 0 false false 384 pens_parts pens_shape pens_taken pens_clean pens_sized pens_given pens_ends ∙ pens_said

-- all of them
pub star_bytes : map session star_inputs ≡ star_outputs
unfolding star_inputs star_outputs
star_bytes = ap₂ ◌∷◌ star_g (ap₂ ◌∷◌ star_a (ap₂ ◌∷◌ star_b (ap₂ ◌∷◌ star_c (ap₂ ◌∷◌ star_c2 (ap₂ ◌∷◌ star_d (ap₂ ◌∷◌ star_d2 (ap₂ ◌∷◌ star_e (ap₂ ◌∷◌ star_e2 (ap₂ ◌∷◌ star_f (ap₂ ◌∷◌ star_h (ap₂ ◌∷◌ star_code (ap₂ ◌∷◌ star_literal (ap₂ ◌∷◌ star_sizes (ap₂ ◌∷◌ star_pens (refl)))))))))))))))
