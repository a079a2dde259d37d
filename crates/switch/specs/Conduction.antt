-- 01, "Conduction": values 0, 1, X; channels, and the rule that gives them by position; edges that are on; paths over on edges; joined
-- nodes. 02, "No more grouped transistors": an edge is one transistor (01's edges of several are in Grouped). 02, "Pass transistors": each
-- edge has its own channel, which the rule gives it or which is stated.
use Rattle.std.specs.Prelude.{ℕ, zero, suc, Bool, true, false, cond, ◌&&◌, ◌||◌, not, leb, eqb}
use mathlib.Core.List.{List, [], ◌∷◌, Memᴰ}

-- the value of a label: 0, 1, or X, which is not known
pub data Value : Type 0 where
  at0 : Value
  at1 : Value
  at_x : Value

abbrev pub ground : ℕ
ground = 0

abbrev pub supply : ℕ
supply = 1

pub data Channel : Type 0 where
  channel_p : Channel
  channel_n : Channel

-- the number that stands for a channel, 0 n, 1 p, and the channel that a number stands for; a file gives no others (refusal 7)
unfoldable pub channel_bit : Channel → ℕ
channel_bit channel_p = 1
channel_bit channel_n = 0

unfoldable pub channel_by : ℕ → Channel
channel_by zero = channel_n
channel_by (suc b) = channel_p

-- how a field of the file tells an edge's channel: by its node numbers (tag 3), or by a byte of its own (tag 7)
pub data EdgeTag : Type 0 where
  by_position : EdgeTag
  stated : EdgeTag

-- an edge of a module type, one transistor: its two nodes, its channel and its label; and the tag that it came with, which is kept for
-- whoever writes the file back. Nothing here asks for it
pub record Edge : Type 0 where
  pub first : ℕ
  pub second : ℕ
  pub channel : Channel
  pub label : ℕ
  pub tag : EdgeTag

-- parallel transistors of tag 3: an edge for each of their labels, in order
unfoldable pub edges_for : ℕ → ℕ → Channel → List ℕ → List Edge
edges_for a b c [] = []
edges_for a b c (l ∷ ls) = record { first = a; second = b; channel = c; label = l; tag = by_position } ∷ edges_for a b c ls

unfoldable pub between : ℕ → ℕ → ℕ → Bool
between low high m = leb low m && leb m high

-- the channel rule of tag 3, of an edge with the ends a and b in a type with the highest node h and the output node o: with both ends in 1
-- to o it is p-channel
unfoldable pub p_ends : ℕ → ℕ → ℕ → Bool
p_ends o a b = between 1 o a && between 1 o b

-- with both ends in o to h, or 0, it is n-channel
unfoldable pub n_end : ℕ → ℕ → ℕ → Bool
n_end h o m = eqb m ground || between o h m

unfoldable pub n_ends : ℕ → ℕ → ℕ → ℕ → Bool
n_ends h o a b = n_end h o a && n_end h o b

-- any other edge of tag 3 is refused, as is one with equal ends (refusal 8, which reading gives)
unfoldable pub bad_ends : ℕ → ℕ → ℕ → ℕ → Bool
bad_ends h o a b = eqb a b || not (p_ends o a b || n_ends h o a b)

-- so of the edges that are not refused each is of one channel: only an edge from o to o would be of both, and it has equal ends. Reading
-- tag 3 takes an edge's channel from here; nothing else asks where its ends are
unfoldable pub channel_of : ℕ → ℕ → ℕ → Channel
channel_of o a b = cond (p_ends o a b) channel_p channel_n

-- a transistor is on when its label is known and is 0 (p) or 1 (n)
unfoldable pub transistor_on : Channel → Value → Bool
transistor_on channel_p at0 = true
transistor_on channel_p at1 = false
transistor_on channel_p at_x = false
transistor_on channel_n at0 = false
transistor_on channel_n at1 = true
transistor_on channel_n at_x = false

-- what switches on: whether a transistor is on, by its channel and its label. Conduction asks nothing else of the labels
abbrev pub Switching : Type 0
Switching = Channel → ℕ → Bool

-- what the labels' values switch on
abbrev pub by_values : (ℕ → Value) → Switching
by_values values = λ (c : Channel) (l : ℕ). transistor_on c (values l)

-- an edge is on when its transistor is
unfoldable pub edge_on : Switching → Edge → Bool
edge_on on e = on e.channel e.label

-- a link: the two nodes of an edge that is on, or of a bridge that is closed
abbrev pub Link : Type 0
Link = ℕ × ℕ

-- the links of the on edges
unfoldable pub links : Switching → List Edge → List Link
links on [] = []
links on (e ∷ es) = let rest = links on es in cond (edge_on on e) ((e.first, e.second) ∷ rest) rest

abbrev pub Among : Link → List Link → Type 0
Among w ws = Memᴰ w ws

-- a path over links from one node to another, either way along each link
pub data LinkPath (ws : List Link) (start : ℕ) : ℕ → Type 0 where
  here : LinkPath ws start start
  forth : {a b : ℕ} → Among (a, b) ws → LinkPath ws start a → LinkPath ws start b
  back : {a b : ℕ} → Among (a, b) ws → LinkPath ws start b → LinkPath ws start a

-- two nodes are joined when a path runs between them; a node is joined to itself
abbrev pub Joined : List Link → ℕ → ℕ → Type 0
Joined ws a b = LinkPath ws a b
