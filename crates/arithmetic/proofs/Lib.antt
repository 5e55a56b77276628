mod Horner
