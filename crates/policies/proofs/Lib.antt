mod Values
