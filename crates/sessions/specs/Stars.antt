-- Document 01's starred cases and the edges, by the bytes of input and output: the lines as they stand there, each ended by a newline.
use Rattle.std.specs.Prelude.{List, [], ◌∷◌, ℕ}
use Prim.Native.Char.{code}
use Prim.Native.String as string
use Prim.Native.String.{String}

-- the bytes of a text, one a character
unfoldable pub as_bytes : String → List ℕ
as_bytes string.[] = []
as_bytes (string.◌∷◌ c s) = code c ∷ as_bytes s

-- G
unfoldable pub g_in : List ℕ
g_in = as_bytes "O\t0\t0\nP\t3\t2\t3\t7\t0\nP\t4\t2\t4\t7\t2\nG\t0\t1\t4\nI\nN\t0\t0\nN\t4\t0\nR\t-\nU\t4\nU\t0\nN\t5\t0\nR\t0\n"

unfoldable pub g_out : List ℕ
g_out = as_bytes "C\nC\nX\nR\t4\t0\nC\nC\nC\t0\t2\nR\t5\n"

-- A: no pens
unfoldable pub a_in : List ℕ
a_in = as_bytes "I\n"

unfoldable pub a_out : List ℕ
a_out = as_bytes "C\n"

-- B
unfoldable pub b_in : List ℕ
b_in = as_bytes "P\t3\t1\t2\nI\nR\t-\n"

unfoldable pub b_out : List ℕ
b_out = as_bytes "X\nR\n"

-- C
unfoldable pub c_in : List ℕ
c_in = as_bytes "P\t3\t1\t4\nI\nR\t-\n"

unfoldable pub c_out : List ℕ
c_out = as_bytes "X\nR\n"

-- C2
unfoldable pub c2_in : List ℕ
c2_in = as_bytes "P\t3\t1\t3\nI\n"

unfoldable pub c2_out : List ℕ
c2_out = as_bytes "C\n"

-- D
unfoldable pub d_in : List ℕ
d_in = as_bytes "P\t1\t0\nG\t0\t0\t0\nN\t0\t0\nR\t-\n"

unfoldable pub d_out : List ℕ
d_out = as_bytes "X\nR\t0\n"

-- D2
unfoldable pub d2_in : List ℕ
d2_in = as_bytes "P\t1\t0\nG\t0\t0\t0\nI\nR\t1\n"

unfoldable pub d2_out : List ℕ
d2_out = as_bytes "C\nR\n"

-- E
unfoldable pub e_in : List ℕ
e_in = as_bytes "P\t1\t0\nP\t1\t0\nG\t0\t1\t0\nG\t0\t1\t2\nN\t1\t0\nR\t3\n"

unfoldable pub e_out : List ℕ
e_out = as_bytes "C\t3\nR\t1\n"

-- E2
unfoldable pub e2_in : List ℕ
e2_in = as_bytes "P\t1\t0\nP\t1\t0\nG\t0\t1\t0\nG\t0\t1\t2\nN\t0\t0\nR\t2\n"

unfoldable pub e2_out : List ℕ
e2_out = as_bytes "C\t2\nR\t0\n"

-- F
unfoldable pub f_in : List ℕ
f_in = as_bytes "P\t1\t0\nP\t1\t0\nG\t0\t1\t0\nG\t0\t1\t2\nV\t1\t1\nN\t1\t0\nR\t-\n"

unfoldable pub f_out : List ℕ
f_out = as_bytes "X\nR\t1\t2\n"

-- H
unfoldable pub h_in : List ℕ
h_in = as_bytes "P\t2\t1\t2\nP\t3\t1\t4\nG\t0\t1\t0\nI\nR\t-\n"

unfoldable pub h_out : List ℕ
h_out = as_bytes "X\nR\n"

-- code 4
unfoldable pub code_in : List ℕ
code_in = as_bytes "P\t1\t0\nP\t1\t0\nG\t0\t1\t0\nV\t0\t4\nI\nU\t1\n"

unfoldable pub code_out : List ℕ
code_out = as_bytes "C\nC\n"

-- literal 8191
unfoldable pub literal_in : List ℕ
literal_in = as_bytes "P\t1\t0\nP\t1\t0\nG\t0\t1\t8191\nN\t8191\t0\nU\t8191\n"

unfoldable pub literal_out : List ℕ
literal_out = as_bytes "C\nC\n"

-- 32 sizes
unfoldable pub sizes_in : List ℕ
sizes_in = as_bytes "P\t1\t32\t1\t2\t3\t4\t5\t6\t7\t8\t9\t10\t11\t12\t13\t14\t15\t16\t17\t18\t19\t20\t21\t22\t23\t24\t25\t26\t27\t28\t29\t30\t31\t32\t0\t2\t4\t6\t8\t10\t12\t14\t16\t18\t20\t22\t24\t26\t28\t30\t32\t34\t36\t38\t40\t42\t44\t46\t48\t50\t52\t54\t56\t58\t60\nI\n"

unfoldable pub sizes_out : List ℕ
sizes_out = as_bytes "C\n"

-- 64 pens
unfoldable pub pens_in : List ℕ
pens_in = as_bytes "P\t0\t0\nP\t0\t0\nP\t0\t0\nP\t0\t0\nP\t0\t0\nP\t0\t0\nP\t0\t0\nP\t0\t0\nP\t0\t0\nP\t0\t0\nP\t0\t0\nP\t0\t0\nP\t0\t0\nP\t0\t0\nP\t0\t0\nP\t0\t0\nP\t0\t0\nP\t0\t0\nP\t0\t0\nP\t0\t0\nP\t0\t0\nP\t0\t0\nP\t0\t0\nP\t0\t0\nP\t0\t0\nP\t0\t0\nP\t0\t0\nP\t0\t0\nP\t0\t0\nP\t0\t0\nP\t0\t0\nP\t0\t0\nP\t0\t0\nP\t0\t0\nP\t0\t0\nP\t0\t0\nP\t0\t0\nP\t0\t0\nP\t0\t0\nP\t0\t0\nP\t0\t0\nP\t0\t0\nP\t0\t0\nP\t0\t0\nP\t0\t0\nP\t0\t0\nP\t0\t0\nP\t0\t0\nP\t0\t0\nP\t0\t0\nP\t0\t0\nP\t0\t0\nP\t0\t0\nP\t0\t0\nP\t0\t0\nP\t0\t0\nP\t0\t0\nP\t0\t0\nP\t0\t0\nP\t0\t0\nP\t0\t0\nP\t0\t0\nP\t0\t0\nP\t0\t0\nI\n"

unfoldable pub pens_out : List ℕ
pens_out = as_bytes "C\n"

-- all of them, in this order
unfoldable pub star_inputs : List (List ℕ)
star_inputs = g_in ∷ a_in ∷ b_in ∷ c_in ∷ c2_in ∷ d_in ∷ d2_in ∷ e_in ∷ e2_in ∷ f_in ∷ h_in ∷ code_in ∷ literal_in ∷ sizes_in ∷ pens_in ∷ []

unfoldable pub star_outputs : List (List ℕ)
star_outputs = g_out ∷ a_out ∷ b_out ∷ c_out ∷ c2_out ∷ d_out ∷ d2_out ∷ e_out ∷ e2_out ∷ f_out ∷ h_out ∷ code_out ∷ literal_out ∷ sizes_out ∷ pens_out ∷ []
