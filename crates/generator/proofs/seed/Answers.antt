use mathlib.Core.List.{[], ◌∷◌}
use mathlib.Core.Path.{◌≡◌, ◌∙◌}
use mir.Syntax.{w32}
use lib.ListN.{get_or}
use Rattle.std.proofs.Common.{rules}
use Rattle.std.specs.Int.{from_le_bytes}
use Rattle.generator.proofs.SeedBytes.{seed_bytes}
use Rattle.generator.proofs.seed.Goals as goal

pub returns : goal.returns
returns c =
    let bytes = c.args.bytes.now in
    let e0 : c.at.result ≡ get_or bytes 0 0 = search rules in
    let e1 : c.at-2.result ≡ get_or bytes 1 0 = search rules in
    let e2 : c.at-3.result ≡ get_or bytes 2 0 = search rules in
    let e3 : c.at-4.result ≡ get_or bytes 3 0 = search rules in
    c.from_le_bytes.ensures ∙ (λ t. from_le_bytes w32 (e0 t ∷ e1 t ∷ e2 t ∷ e3 t ∷ [])) ∙ seed_bytes bytes
