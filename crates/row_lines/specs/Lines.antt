-- The lines of examples/row.txt.
use Rattle.std.specs.Prelude.{ℕ, codes, List, [], ◌∷◌, ◌++◌}
use Rattle.event_lines.specs.Run.{ended_lines}

-- three ASes in a row
abbrev pub topology_line : List ℕ
topology_line =
    codes "{\"ases\":["
    ++ codes "{\"ia\":\"1-ff00:0:110\",\"core\":true,\"exp\":63,\"key\":\"6130\",\"routers\":1},"
    ++ codes "{\"ia\":\"1-ff00:0:111\",\"core\":false,\"exp\":63,\"key\":\"6131\",\"routers\":1},"
    ++ codes "{\"ia\":\"1-ff00:0:112\",\"core\":false,\"exp\":63,\"key\":\"6132\",\"routers\":1}],"
    ++ codes "\"links\":["
    ++ codes "{\"kind\":\"child\","
    ++ codes "\"a\":{\"ia\":\"1-ff00:0:110\",\"if\":1,\"router\":0},"
    ++ codes "\"b\":{\"ia\":\"1-ff00:0:111\",\"if\":1,\"router\":0}},"
    ++ codes "{\"kind\":\"child\","
    ++ codes "\"a\":{\"ia\":\"1-ff00:0:111\",\"if\":2,\"router\":0},"
    ++ codes "\"b\":{\"ia\":\"1-ff00:0:112\",\"if\":1,\"router\":0}}]}"

-- a segment is made, a packet is sent and turned three times, and it is shown
abbrev pub later_lines : List (List ℕ)
later_lines =
    codes "{\"do\":\"tick\",\"now\":1000}"
    ∷ codes "{\"do\":\"originate\",\"ia\":\"1-ff00:0:110\",\"egress\":1,\"beta0\":4660}"
    ∷ codes "{\"do\":\"extend\",\"beacon\":0,\"ia\":\"1-ff00:0:111\",\"egress\":2}"
    ∷ codes "{\"do\":\"terminate\",\"beacon\":1,\"ia\":\"1-ff00:0:112\"}"
    ∷ codes "{\"do\":\"ask\",\"src\":\"1-ff00:0:112\",\"dst\":\"1-ff00:0:110\",\"limit\":4}"
    ∷ codes "{\"do\":\"send\",\"ask\":0,\"path\":0,\"payload\":\"6869\"}"
    ∷ codes "{\"do\":\"turn\",\"packet\":0}"
    ∷ codes "{\"do\":\"turn\",\"packet\":0}"
    ∷ codes "{\"do\":\"turn\",\"packet\":0}"
    ∷ codes "{\"do\":\"show\",\"packet\":0}" ∷ []

-- all lines of the file
abbrev pub row_lines : List (List ℕ)
row_lines = topology_line ∷ later_lines

-- the bytes of the file, in which each line has its end
abbrev pub row_text : List ℕ
row_text = ended_lines row_lines
