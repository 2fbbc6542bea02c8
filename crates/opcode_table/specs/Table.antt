-- claim: the table of operations.
use Rattle.std.specs.Prelude.{ℕ, List, [], ◌∷◌, take, find, map, ◌==◌, nat_eq, codes}
use Rattle.std.specs.List.{position_or_len}
use Rattle.std.specs.Option.{option_map}
use Rattle.std.specs.Cmp.Lexicographic.{pointwise}
use Rattle.std.specs.declared.option.Option.{Option}
use Rattle.opcode_table.specs.declared.op.Op.{Op}
use Rattle.opcode_table.specs.declared.op.Op.TheVariants as op
use Rattle.opcode_table.specs.declared.op.Class.{Class}
use Rattle.opcode_table.specs.declared.op.Class.TheVariants as class
use Rattle.opcode_table.specs.declared.op.Kind.{Kind}
use Rattle.opcode_table.specs.declared.op.Kind.TheVariants as kind
use Rattle.opcode_table.specs.declared.op.Row.{Row}

abbrev pub line : Op → ℕ → List ℕ → Class → Kind → Row
line o k n c d = record { 0 = o; 1 = k; 2 = n; 3 = c; 4 = d }

-- The number, name, class and group of each operation. The number is that of positions S and 1 to 11, so minus adds
-- 0o4000; for the operations of a prefix it is 0o10000 and the prefix; for those of code 0760 it is 0o20000 and the
-- address, and minus adds 0o100000.
abbrev pub row_of : Op → Row
row_of op.Cla = line op.Cla 0o0500 (codes "CLA   ") class.Addressed kind.Fixed
row_of op.Cls = line op.Cls 0o0502 (codes "CLS   ") class.Addressed kind.Fixed
row_of op.Cal = line op.Cal 0o4500 (codes "CAL   ") class.Addressed kind.Logic
row_of op.Ldq = line op.Ldq 0o0560 (codes "LDQ   ") class.Addressed kind.Fixed
row_of op.Ldi = line op.Ldi 0o0441 (codes "LDI   ") class.Addressed kind.Logic
row_of op.Stz = line op.Stz 0o0600 (codes "STZ   ") class.Addressed kind.Fixed
row_of op.Sto = line op.Sto 0o0601 (codes "STO   ") class.Addressed kind.Fixed
row_of op.Slw = line op.Slw 0o0602 (codes "SLW   ") class.Addressed kind.Logic
row_of op.Sti = line op.Sti 0o0604 (codes "STI   ") class.Addressed kind.Logic
row_of op.Stq = line op.Stq 0o4600 (codes "STQ   ") class.Addressed kind.Fixed
row_of op.Slq = line op.Slq 0o4620 (codes "SLQ   ") class.Addressed kind.Fixed
row_of op.Sta = line op.Sta 0o0621 (codes "STA   ") class.Addressed kind.Fixed
row_of op.Std = line op.Std 0o0622 (codes "STD   ") class.Addressed kind.Fixed
row_of op.Stt = line op.Stt 0o0625 (codes "STT   ") class.Addressed kind.Fixed
row_of op.Stl = line op.Stl 0o4625 (codes "STL   ") class.Addressed kind.Fixed
row_of op.Stp = line op.Stp 0o0630 (codes "STP   ") class.Addressed kind.Fixed
row_of op.Add = line op.Add 0o0400 (codes "ADD   ") class.Addressed kind.Fixed
row_of op.Sub = line op.Sub 0o0402 (codes "SUB   ") class.Addressed kind.Fixed
row_of op.Adm = line op.Adm 0o0401 (codes "ADM   ") class.Addressed kind.Fixed
row_of op.Sbm = line op.Sbm 0o4400 (codes "SBM   ") class.Addressed kind.Fixed
row_of op.Acl = line op.Acl 0o0361 (codes "ACL   ") class.Addressed kind.Logic
row_of op.Mpy = line op.Mpy 0o0200 (codes "MPY   ") class.Addressed kind.Fixed
row_of op.Mpr = line op.Mpr 0o4200 (codes "MPR   ") class.Addressed kind.Fixed
row_of op.Dvp = line op.Dvp 0o0221 (codes "DVP   ") class.Addressed kind.Fixed
row_of op.Dvh = line op.Dvh 0o0220 (codes "DVH   ") class.Addressed kind.Fixed
row_of op.Ana = line op.Ana 0o4320 (codes "ANA   ") class.Addressed kind.Logic
row_of op.Era = line op.Era 0o0322 (codes "ERA   ") class.Addressed kind.Logic
row_of op.Ora = line op.Ora 0o4501 (codes "ORA   ") class.Addressed kind.Logic
row_of op.Ans = line op.Ans 0o0320 (codes "ANS   ") class.Addressed kind.Logic
row_of op.Ors = line op.Ors 0o4602 (codes "ORS   ") class.Addressed kind.Logic
row_of op.Cas = line op.Cas 0o0340 (codes "CAS   ") class.Addressed kind.Fixed
row_of op.Las = line op.Las 0o4340 (codes "LAS   ") class.Addressed kind.Logic
row_of op.Zet = line op.Zet 0o0520 (codes "ZET   ") class.Addressed kind.Fixed
row_of op.Nzt = line op.Nzt 0o4520 (codes "NZT   ") class.Addressed kind.Fixed
row_of op.Xca = line op.Xca 0o0131 (codes "XCA   ") class.Direct kind.Fixed
row_of op.Xcl = line op.Xcl 0o4130 (codes "XCL   ") class.Direct kind.Logic
row_of op.Als = line op.Als 0o0767 (codes "ALS   ") class.Direct kind.Logic
row_of op.Ars = line op.Ars 0o0771 (codes "ARS   ") class.Direct kind.Logic
row_of op.Lls = line op.Lls 0o0763 (codes "LLS   ") class.Direct kind.Logic
row_of op.Lrs = line op.Lrs 0o0765 (codes "LRS   ") class.Direct kind.Logic
row_of op.Lgl = line op.Lgl 0o4763 (codes "LGL   ") class.Direct kind.Logic
row_of op.Lgr = line op.Lgr 0o4765 (codes "LGR   ") class.Direct kind.Logic
row_of op.Rql = line op.Rql 0o4773 (codes "RQL   ") class.Direct kind.Logic
row_of op.Lxa = line op.Lxa 0o0534 (codes "LXA   ") class.Tagged kind.Index
row_of op.Lxd = line op.Lxd 0o4534 (codes "LXD   ") class.Tagged kind.Index
row_of op.Lac = line op.Lac 0o0535 (codes "LAC   ") class.Tagged kind.Index
row_of op.Ldc = line op.Ldc 0o4535 (codes "LDC   ") class.Tagged kind.Index
row_of op.Axt = line op.Axt 0o0774 (codes "AXT   ") class.Tagged kind.Index
row_of op.Axc = line op.Axc 0o4774 (codes "AXC   ") class.Tagged kind.Index
row_of op.Pax = line op.Pax 0o0734 (codes "PAX   ") class.Tagged kind.Index
row_of op.Pdx = line op.Pdx 0o4734 (codes "PDX   ") class.Tagged kind.Index
row_of op.Pac = line op.Pac 0o0737 (codes "PAC   ") class.Tagged kind.Index
row_of op.Pdc = line op.Pdc 0o4737 (codes "PDC   ") class.Tagged kind.Index
row_of op.Sxa = line op.Sxa 0o0634 (codes "SXA   ") class.Tagged kind.Index
row_of op.Sxd = line op.Sxd 0o4634 (codes "SXD   ") class.Tagged kind.Index
row_of op.Sca = line op.Sca 0o0636 (codes "SCA   ") class.Tagged kind.Index
row_of op.Scd = line op.Scd 0o4636 (codes "SCD   ") class.Tagged kind.Index
row_of op.Pxa = line op.Pxa 0o0754 (codes "PXA   ") class.Tagged kind.Index
row_of op.Pxd = line op.Pxd 0o4754 (codes "PXD   ") class.Tagged kind.Index
row_of op.Pca = line op.Pca 0o0756 (codes "PCA   ") class.Tagged kind.Index
row_of op.Pcd = line op.Pcd 0o4756 (codes "PCD   ") class.Tagged kind.Index
row_of op.Tra = line op.Tra 0o0020 (codes "TRA   ") class.Addressed kind.Index
row_of op.Tze = line op.Tze 0o0100 (codes "TZE   ") class.Addressed kind.Index
row_of op.Tnz = line op.Tnz 0o4100 (codes "TNZ   ") class.Addressed kind.Index
row_of op.Tpl = line op.Tpl 0o0120 (codes "TPL   ") class.Addressed kind.Index
row_of op.Tmi = line op.Tmi 0o4120 (codes "TMI   ") class.Addressed kind.Index
row_of op.Tov = line op.Tov 0o0140 (codes "TOV   ") class.Addressed kind.Index
row_of op.Tno = line op.Tno 0o4140 (codes "TNO   ") class.Addressed kind.Index
row_of op.Tqp = line op.Tqp 0o0162 (codes "TQP   ") class.Addressed kind.Index
row_of op.Tlq = line op.Tlq 0o0040 (codes "TLQ   ") class.Addressed kind.Index
row_of op.Tsx = line op.Tsx 0o0074 (codes "TSX   ") class.Tagged kind.Index
row_of op.Xec = line op.Xec 0o0522 (codes "XEC   ") class.Addressed kind.Xec
row_of op.Nop = line op.Nop 0o0761 (codes "NOP   ") class.Direct kind.Index
row_of op.Htr = line op.Htr 0o0000 (codes "HTR   ") class.Addressed kind.Index
row_of op.Hpr = line op.Hpr 0o0420 (codes "HPR   ") class.Direct kind.Index
row_of op.Pai = line op.Pai 0o0044 (codes "PAI   ") class.Direct kind.Logic
row_of op.Pia = line op.Pia 0o4046 (codes "PIA   ") class.Direct kind.Logic
row_of op.Oai = line op.Oai 0o0043 (codes "OAI   ") class.Direct kind.Logic
row_of op.Iia = line op.Iia 0o0041 (codes "IIA   ") class.Direct kind.Logic
row_of op.Ria = line op.Ria 0o4042 (codes "RIA   ") class.Direct kind.Logic
row_of op.Osi = line op.Osi 0o0442 (codes "OSI   ") class.Addressed kind.Logic
row_of op.Iis = line op.Iis 0o0440 (codes "IIS   ") class.Addressed kind.Logic
row_of op.Ris = line op.Ris 0o0445 (codes "RIS   ") class.Addressed kind.Logic
row_of op.Ont = line op.Ont 0o0446 (codes "ONT   ") class.Addressed kind.Logic
row_of op.Oft = line op.Oft 0o0444 (codes "OFT   ") class.Addressed kind.Logic
row_of op.Tio = line op.Tio 0o0042 (codes "TIO   ") class.Addressed kind.Logic
row_of op.Tif = line op.Tif 0o0046 (codes "TIF   ") class.Addressed kind.Logic
row_of op.Sir = line op.Sir 0o0055 (codes "SIR   ") class.Tagged kind.Logic
row_of op.Sil = line op.Sil 0o4055 (codes "SIL   ") class.Tagged kind.Logic
row_of op.Rir = line op.Rir 0o0057 (codes "RIR   ") class.Tagged kind.Logic
row_of op.Ril = line op.Ril 0o4057 (codes "RIL   ") class.Tagged kind.Logic
row_of op.Rnt = line op.Rnt 0o0056 (codes "RNT   ") class.Tagged kind.Logic
row_of op.Lnt = line op.Lnt 0o4056 (codes "LNT   ") class.Tagged kind.Logic
row_of op.Rft = line op.Rft 0o0054 (codes "RFT   ") class.Tagged kind.Logic
row_of op.Lft = line op.Lft 0o4054 (codes "LFT   ") class.Tagged kind.Logic
row_of op.Tia = line op.Tia 0o0101 (codes "TIA   ") class.Addressed kind.Tia
row_of op.Txi = line op.Txi 0o10001 (codes "TXI   ") class.Prefixed kind.Index
row_of op.Tix = line op.Tix 0o10002 (codes "TIX   ") class.Prefixed kind.Index
row_of op.Txh = line op.Txh 0o10003 (codes "TXH   ") class.Prefixed kind.Index
row_of op.Tnx = line op.Tnx 0o10006 (codes "TNX   ") class.Prefixed kind.Index
row_of op.Txl = line op.Txl 0o10007 (codes "TXL   ") class.Prefixed kind.Index
row_of op.Clm = line op.Clm 0o20000 (codes "CLM   ") class.Group kind.Fixed
row_of op.Lbt = line op.Lbt 0o20001 (codes "LBT   ") class.Group kind.Fixed
row_of op.Pbt = line op.Pbt 0o120001 (codes "PBT   ") class.Group kind.Fixed
row_of op.Chs = line op.Chs 0o20002 (codes "CHS   ") class.Group kind.Fixed
row_of op.Ssp = line op.Ssp 0o20003 (codes "SSP   ") class.Group kind.Fixed
row_of op.Ssm = line op.Ssm 0o120003 (codes "SSM   ") class.Group kind.Fixed
row_of op.Com = line op.Com 0o20006 (codes "COM   ") class.Group kind.Fixed
row_of op.Rnd = line op.Rnd 0o20010 (codes "RND   ") class.Group kind.Fixed
row_of op.Dct = line op.Dct 0o20012 (codes "DCT   ") class.Group kind.Fixed

-- all operations
abbrev pub ops : List Op
ops =
    op.Cla
    ∷ op.Cls
    ∷ op.Cal
    ∷ op.Ldq
    ∷ op.Ldi
    ∷ op.Stz
    ∷ op.Sto
    ∷ op.Slw
    ∷ op.Sti
    ∷ op.Stq
    ∷ op.Slq
    ∷ op.Sta
    ∷ op.Std
    ∷ op.Stt
    ∷ op.Stl
    ∷ op.Stp
    ∷ op.Add
    ∷ op.Sub
    ∷ op.Adm
    ∷ op.Sbm
    ∷ op.Acl
    ∷ op.Mpy
    ∷ op.Mpr
    ∷ op.Dvp
    ∷ op.Dvh
    ∷ op.Ana
    ∷ op.Era
    ∷ op.Ora
    ∷ op.Ans
    ∷ op.Ors
    ∷ op.Cas
    ∷ op.Las
    ∷ op.Zet
    ∷ op.Nzt
    ∷ op.Xca
    ∷ op.Xcl
    ∷ op.Als
    ∷ op.Ars
    ∷ op.Lls
    ∷ op.Lrs
    ∷ op.Lgl
    ∷ op.Lgr
    ∷ op.Rql
    ∷ op.Lxa
    ∷ op.Lxd
    ∷ op.Lac
    ∷ op.Ldc
    ∷ op.Axt
    ∷ op.Axc
    ∷ op.Pax
    ∷ op.Pdx
    ∷ op.Pac
    ∷ op.Pdc
    ∷ op.Sxa
    ∷ op.Sxd
    ∷ op.Sca
    ∷ op.Scd
    ∷ op.Pxa
    ∷ op.Pxd
    ∷ op.Pca
    ∷ op.Pcd
    ∷ op.Tra
    ∷ op.Tze
    ∷ op.Tnz
    ∷ op.Tpl
    ∷ op.Tmi
    ∷ op.Tov
    ∷ op.Tno
    ∷ op.Tqp
    ∷ op.Tlq
    ∷ op.Tsx
    ∷ op.Xec
    ∷ op.Nop
    ∷ op.Htr
    ∷ op.Hpr
    ∷ op.Pai
    ∷ op.Pia
    ∷ op.Oai
    ∷ op.Iia
    ∷ op.Ria
    ∷ op.Osi
    ∷ op.Iis
    ∷ op.Ris
    ∷ op.Ont
    ∷ op.Oft
    ∷ op.Tio
    ∷ op.Tif
    ∷ op.Sir
    ∷ op.Sil
    ∷ op.Rir
    ∷ op.Ril
    ∷ op.Rnt
    ∷ op.Lnt
    ∷ op.Rft
    ∷ op.Lft
    ∷ op.Tia
    ∷ op.Txi
    ∷ op.Tix
    ∷ op.Txh
    ∷ op.Tnx
    ∷ op.Txl
    ∷ op.Clm
    ∷ op.Lbt
    ∷ op.Pbt
    ∷ op.Chs
    ∷ op.Ssp
    ∷ op.Ssm
    ∷ op.Com
    ∷ op.Rnd
    ∷ op.Dct ∷ []

abbrev pub number_of : Row → ℕ
number_of r = r.1

abbrev pub class_of : Op → Class
class_of o = (row_of o).3

abbrev pub kind_of : Op → Kind
kind_of o = (row_of o).4

-- the name without its blanks: each has three letters
abbrev pub text_of : Op → List ℕ
text_of o = take 3 (row_of o).2

abbrev pub row_with_number : ℕ → Option Row
row_with_number k = find (λ (r : Row). r.1 == k) (map row_of ops)

-- the place of a number's row in the list of rows, 110 where there is none
unfoldable pub place_with_number : ℕ → ℕ
place_with_number k = position_or_len (λ (r : Row). r.1 == k) (map row_of ops)

-- the operation of a name padded with blanks
abbrev pub op_with_name : List ℕ → Option Op
op_with_name n = option_map (λ (r : Row). r.0) (find (λ (r : Row). pointwise nat_eq r.2 n) (map row_of ops))
