-- The tree of a table (02, CR 13): a leaf for each entry, in point order, a node for each two children, the lower left.
use Rattle.std.specs.Prelude.{ℕ, zero, suc, ◌-◌, ◌/◌, ◌%◌, ◌^◌, cond, List, [], ◌∷◌, ◌++◌, eqb, ltb, get_or, take, drop}
use Rattle.hashing.specs.Sha256.{sha256}

-- the hash of byte 0 and an entry's bytes; of byte 1 and two children
unfoldable pub leaf_of : List ℕ → List ℕ
leaf_of entry = sha256 (0 ∷ entry)

unfoldable pub node_of : List ℕ → List ℕ → List ℕ
node_of left right = sha256 (1 ∷ (left ++ right))

-- the root over 2^height leaves
unfoldable pub root_of : ℕ → List (List ℕ) → List ℕ
root_of zero leaves = get_or leaves 0 []
root_of (suc height) leaves = node_of (root_of height (take (2 ^ height) leaves)) (root_of height (drop (2 ^ height) leaves))

-- the path of leaf j: its sibling nodes from the leaf up
unfoldable pub path_of : ℕ → List (List ℕ) → ℕ → List (List ℕ)
path_of zero leaves j = []
path_of (suc height) leaves j =
    cond (ltb j (2 ^ height))
    (path_of height (take (2 ^ height) leaves) j ++ (root_of height (drop (2 ^ height) leaves) ∷ []))
    (path_of height (drop (2 ^ height) leaves) (j - 2 ^ height) ++ (root_of height (take (2 ^ height) leaves) ∷ []))

-- a node's parent, from its number among the nodes of its height and its sibling
unfoldable pub parent_of : List ℕ → ℕ → List ℕ → List ℕ
parent_of node j sibling = cond (eqb (j % 2) 0) (node_of node sibling) (node_of sibling node)

-- the root that a path leads to
unfoldable pub climb : List ℕ → ℕ → List (List ℕ) → List ℕ
climb node j [] = node
climb node j (sibling ∷ path) = climb (parent_of node j sibling) (j / 2) path
